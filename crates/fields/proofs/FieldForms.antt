-- The laws of rule 5 as the code works it out: of the fields of a record, and of totals that are the model's. Assumes nothing.
use mathlib.Core.Path.{◌≡◌}
use mathlib.Core.Bool.{Bool, false, ◌&&◌, ◌||◌}
use mathlib.Core.Logic.{◌⊎◌, inl, inr, ⊎_elim}
use Prim.Native.Nat.{ℕ, ◌-◌, ◌^◌, ◌≤◌, ◌<◌}
use native.Mathlib.Omega.{arith}
use lib.Dec.{eqb, leb, ltb}
use lib.ListN.{length}
use mir.Syntax.{w64}
use mir.Val.{Fits}
use borrow.Author.Tests.{ne_eqb}
use Rattle.base.specs.Below.{all_below, every}
use Rattle.blocks.specs.Records.{plain, register, Model, signal_at, variable_at, process_at, driver_at, node_at, statement_at, row_at}
use Rattle.blocks.specs.Totals.{TotalsOf}
use Rattle.blocks.specs.declared.index.Totals.{Totals}
use Rattle.blocks.specs.declared.records.SignalRecord.{SignalRecord}
use Rattle.blocks.specs.declared.records.VariableRecord.{VariableRecord}
use Rattle.blocks.specs.declared.records.ProcessRecord.{ProcessRecord}
use Rattle.blocks.specs.declared.records.DriverRecord.{DriverRecord}
use Rattle.blocks.specs.declared.records.NodeRecord.{NodeRecord}
use Rattle.blocks.specs.declared.records.StatementRecord.{StatementRecord}
use Rattle.fields.specs.Fields.{value_ok, signal_ok, variable_ok, end_of, due_start, process_ok, covered, driver_ok, node_ok, owner_of, in_span, absent, statement_ok, row_ok, fields_ok}

pub signal_form : (d : SignalRecord) (r : Bool) → r ≡ value_ok d.ty d.start → ((((leb d.ty 1 && leb d.kind register) && (eqb d.kind plain || eqb d.ty 1)) && r) && d.zeros) ≡ signal_ok d
unfolding signal_ok every
signal_form d r e = rw e

module _ (M : Model) (p : ℕ) (d : ProcessRecord) (e : d ≡ process_at M p) where
  pub process_form : (r : ℕ) → r ≡ due_start M p → ((eqb d.first r && leb 1 d.count) && d.zeros) ≡ process_ok M p
  unfolding process_ok every
  process_form r q = rw (e, q)

  pub span_form : (a r : ℕ) → r ≡ end_of M p → (leb d.first a && ltb a r) ≡ in_span M p a
  unfolding in_span
  span_form a r q = rw (e, q)

pub end_fits : (x : ℕ) → x < 131072 → Fits w64 x
end_fits x h = omega arith

pub fields_form :
    (M : Model) {s v p c d n t r : Bool} →
    s ≡ all_below (λ k. signal_ok (signal_at M k)) (length M.signals) →
    v ≡ all_below (λ k. variable_ok M (variable_at M k)) (length M.variables) →
    p ≡ all_below (process_ok M) (length M.processes) →
    c ≡ covered M →
    d ≡ all_below (λ k. driver_ok M (driver_at M k)) (length M.drivers) →
    n ≡ all_below (λ k. node_ok M (node_at M k)) (length M.nodes) →
    t ≡ all_below (λ k. statement_ok M k (statement_at M k)) (length M.statements) →
    r ≡ all_below (λ k. row_ok (row_at M k)) (length M.rows) →
    (((((((s && v) && p) && c) && d) && n) && t) && r) ≡ fields_ok M
unfolding fields_ok every
fields_form M e f g h i j k l = rw (e, f, g, h, i, j, k, l)

module _ (M : Model) (t : Totals) (h : TotalsOf M t) where
  pub variable_form : (d : VariableRecord) (r : Bool) → r ≡ value_ok d.ty d.start → ((r && ltb d.process t.processes) && d.zeros) ≡ variable_ok M d
  unfolding variable_ok every
  variable_form d r e = rw (e, h.processes)

  pub driver_form : (d : DriverRecord) → ((ltb d.process t.processes && ltb d.signal t.signals) && d.zeros) ≡ driver_ok M d
  unfolding driver_ok every
  driver_form d = rw (h.processes, h.signals)

  module _ (some : 1 ≤ length M.processes) where
    pub total_some : 1 ≤ t.processes
    total_some = rw h.processes some

    pub last_there : t.processes - 1 < length M.processes
    last_there = rw h.processes (omega arith)

  pub covered_form : (r : ℕ) → r ≡ end_of M (t.processes - 1) → eqb r t.statements ≡ covered M
  unfolding covered
  covered_form r e = rw (e, h.processes, h.statements)

  module _ (d : NodeRecord) where
    pub integer_form : d.kind ≡ 1 → (r : Bool) → r ≡ value_ok 0 d.k → (((eqb d.a 0 && eqb d.b 0) && r) && d.zeros) ≡ node_ok M d
    unfolding node_ok every
    integer_form e r q = rw (e, q)

    pub logic_form : d.kind ≡ 2 → (r : Bool) → r ≡ value_ok 1 d.k → (((eqb d.a 0 && eqb d.b 0) && r) && d.zeros) ≡ node_ok M d
    unfolding node_ok every
    logic_form e r q = rw (e, q)

    pub variable_node : d.kind ≡ 3 → (((ltb d.a t.variables && eqb d.b 0) && eqb d.k 0) && d.zeros) ≡ node_ok M d
    unfolding node_ok every
    variable_node e = rw (e, h.variables)

    pub signal_node : d.kind ≡ 4 → (((ltb d.a t.signals && eqb d.b 0) && eqb d.k 0) && d.zeros) ≡ node_ok M d
    unfolding node_ok every
    signal_node e = rw (e, h.signals)

    pub past_node : d.kind ≡ 5 → (((ltb d.a t.signals && eqb d.b 0) && leb d.k 31) && d.zeros) ≡ node_ok M d
    unfolding node_ok every
    past_node e = rw (e, h.signals)

    pub one_operand : (d.kind ≡ 6) ⊎ (d.kind ≡ 10) → ((eqb d.b 0 && eqb d.k 0) && d.zeros) ≡ node_ok M d
    unfolding node_ok every
    one_operand e = ⊎_elim (λ q. rw q) (λ q. rw q) e

  module _ (n : ℕ) (s : StatementRecord) where
    pub null_form : s.kind ≡ 0 → ((((eqb s.a 0 && eqb s.b 0) && eqb s.c 0) && eqb s.set 0) && s.zeros) ≡ statement_ok M n s
    unfolding statement_ok every
    null_form e = rw e

    pub variable_set : s.kind ≡ 1 → ((((ltb s.a t.variables && ltb s.b t.nodes) && eqb s.c 0) && eqb s.set 0) && s.zeros) ≡ statement_ok M n s
    unfolding statement_ok every
    variable_set e = rw (e, h.variables, h.nodes)

    pub signal_set : (s.kind ≡ 2) ⊎ (s.kind ≡ 7) → ((((ltb s.a t.signals && ltb s.b t.nodes) && ltb s.c t.nodes) && eqb s.set 0) && s.zeros) ≡ statement_ok M n s
    unfolding statement_ok every
    signal_set e = rw (h.signals, h.nodes) (⊎_elim (λ q. rw q) (λ q. rw q) e)

    module _ (r : Bool) (q : r ≡ in_span M (owner_of M n) s.a) where
      pub branch_form : s.kind ≡ 3 → ((((r && ltb s.b t.nodes) && eqb s.c 0) && eqb s.set 0) && s.zeros) ≡ statement_ok M n s
      unfolding statement_ok every
      branch_form e = rw (e, q, h.nodes)

      pub jump_form : s.kind ≡ 4 → ((((r && eqb s.b 0) && eqb s.c 0) && eqb s.set 0) && s.zeros) ≡ statement_ok M n s
      unfolding statement_ok every
      jump_form e = rw (e, q)

    pub wait_form : s.kind ≡ 5 → (r : Bool) → r ≡ ltb s.set (2 ^ t.signals) → ((((eqb s.a 0 && (ltb s.b t.nodes || eqb s.b absent)) && (ltb s.c t.nodes || eqb s.c absent)) && r) && s.zeros) ≡ statement_ok M n s
    unfolding statement_ok every
    wait_form e r q = rw (e, q, h.signals, h.nodes)

    pub null_set : s.kind ≡ 6 → ((((ltb s.a t.signals && eqb s.b 0) && ltb s.c t.nodes) && eqb s.set 0) && s.zeros) ≡ statement_ok M n s
    unfolding statement_ok every
    null_set e = rw (e, h.signals, h.nodes)

    pub other_form : (s.kind ≡ 0 → ⊥) → (s.kind ≡ 1 → ⊥) → ((s.kind ≡ 2) ⊎ (s.kind ≡ 7) → ⊥) → (s.kind ≡ 3 → ⊥) → (s.kind ≡ 4 → ⊥) → (s.kind ≡ 5 → ⊥) → (s.kind ≡ 6 → ⊥) → false ≡ statement_ok M n s
    unfolding statement_ok
    other_form a b c d e f g =
        let k = s.kind in
        rw (ne_eqb k 0 a, ne_eqb k 1 b, ne_eqb k 2 (λ x. c (inl x)), ne_eqb k 7 (λ x. c (inr x)), ne_eqb k 3 d, ne_eqb k 4 e, ne_eqb k 5 f, ne_eqb k 6 g)
