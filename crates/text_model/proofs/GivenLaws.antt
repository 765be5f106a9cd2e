-- What is judged of the given records and the text's totals before a model is made.
-- Assumes nothing.
use mathlib.Core.Path.{◌≡◌, refl, sym, ap₂, ◌∙◌}
use mathlib.Core.Bool.{Bool, true, false, ◌&&◌}
use mathlib.Core.List.{List, []}
use Prim.Native.Nat.{ℕ, ◌≤◌}
use borrow.Author.Tests.{leb-true}
use lib.ListN.{length}
use Rattle.base.specs.Bytes.{ByteIs}
use Rattle.base.specs.Rules.{first_failing}
use Rattle.base.proofs.Below.{list_length, every_at, and_left, and_right}
use Rattle.base.proofs.Rules.{none_left, passes, fails, numbered, none_fails}
use Rattle.blocks.specs.Records.{Model}
use Rattle.blocks.specs.Totals.{totals_ok, TotalsOf}
use Rattle.grammar.specs.Grammar.{Statement}
use Rattle.grammar.specs.Made.{made_nodes, made_statements}
use Rattle.given.specs.Given.{signals_given, variables_given, drivers_given, model_from, whole_ok, given_rules}
use Rattle.given.specs.Names.{named}
use Rattle.text_model.specs.Texts.{GivenFits}

module _ (text g : List ℕ) (p : Statement) {a b : ℕ} (s : ByteIs g 0 a) (v : ByteIs g 1 b) where
  names_same : {q : Bool} → q ≡ named a b text → q ≡ named (signals_given g) (variables_given g) text
  names_same e = rw (s.value, v.value) at e

  -- a name is not there
  pub name_missing : {q : Bool} → q ≡ named a b text → q ≡ false → 27 ≡ first_failing (given_rules text g p)
  unfolding given_rules
  name_missing e h = fails 27 (named (signals_given g) (variables_given g) text) _ (names_same e) h

  module _ {d n m : ℕ} (w : ByteIs g 2 d) (nodes : n ≡ length (made_nodes p)) (statements : m ≡ length (made_statements p)) where
    totals_given : TotalsOf (model_from g p) (record { signals = a; variables = b; processes = 1; drivers = d; nodes = n; statements = m; rows = 0 })
    unfolding model_from
    totals_given = record {
      signals = s.value ∙ sym (list_length _ (signals_given g));
      variables = v.value ∙ sym (list_length _ (variables_given g));
      processes = refl;
      drivers = w.value ∙ sym (list_length _ (drivers_given g));
      nodes = nodes;
      statements = statements;
      rows = refl;
    }

    module _ {q k t : Bool} (e : q ≡ named a b text) (here : q ≡ true) (f : k ≡ whole_ok g)
        (h : (M : Model) → TotalsOf M (record { signals = a; variables = b; processes = 1; drivers = d; nodes = n; statements = m; rows = 0 }) → t ≡ totals_ok M) where
      both : (k && t) ≡ (whole_ok g && totals_ok (model_from g p))
      both = ap₂ ◌&&◌ f (h (model_from g p) totals_given)

      -- all names are there, and the totals are within their limits or not
      pub given_good : (k && t) ≡ true → 0 ≡ first_failing (given_rules text g p)
      unfolding given_rules
      given_good y = none_left ∙ sym (passes 27 (named (signals_given g) (variables_given g) text) _ (names_same e) here ∙ passes 4 (whole_ok g && totals_ok (model_from g p)) [] both y)

      pub given_bad : (k && t) ≡ false → 4 ≡ first_failing (given_rules text g p)
      unfolding given_rules
      given_bad y = fails 4 (whole_ok g && totals_ok (model_from g p)) [] both y ∙ sym (passes 27 (named (signals_given g) (variables_given g) text) _ (names_same e) here)

-- what follows where no such rule is broken
pub record Within (g : List ℕ) (p : Statement) : Type 0 where
  pub fits : GivenFits g
  pub totals : totals_ok (model_from g p) ≡ true
  pub nodes : length (made_nodes p) ≤ 400
  pub some : 1 ≤ length (made_statements p)
  pub statements : length (made_statements p) ≤ 200

totals_within : (M : Model) → totals_ok M ≡ true
    → (length M.signals ≤ 32) × (length M.variables ≤ 64) × (length M.drivers ≤ 64) × (length M.nodes ≤ 400) × (1 ≤ length M.statements) × (length M.statements ≤ 200)
unfolding totals_ok
totals_within M h =
    (leb-true _ _ (every_at _ 0 h), leb-true _ _ (every_at _ 1 h), leb-true _ _ (every_at _ 4 h), leb-true _ _ (every_at _ 5 h), leb-true _ _ (every_at _ 6 h), leb-true _ _ (every_at _ 7 h))

pub given_numbered : (text g : List ℕ) (p : Statement) → numbered 27 (given_rules text g p) ≡ true
unfolding given_rules
given_numbered text g p = refl

pub given_within : (text g : List ℕ) (p : Statement) → first_failing (given_rules text g p) ≡ 0 → Within g p
unfolding given_rules model_from
given_within text g p e =
    let h : (whole_ok g && totals_ok (model_from g p)) ≡ true = none_fails 27 (given_rules text g p) (given_numbered text g p) e 1 in
    let t = and_right (whole_ok g) (totals_ok (model_from g p)) h in
    let l = totals_within (model_from g p) t in
    record {
      fits = record {
        whole = and_left (whole_ok g) (totals_ok (model_from g p)) h;
        signals = rw list_length at l.0;
        variables = rw list_length at l.1;
        drivers = rw list_length at l.2;
      };
      totals = t;
      nodes = l.3;
      some = l.4;
      statements = l.5;
    }
