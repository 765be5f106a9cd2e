-- A value or null, held as a word: no value has the word of null, so what a driver carries is read back as it is. Assumes nothing.
use mathlib.Core.Path.{◌≡◌, refl, sym}
use mathlib.Core.Bool.{Bool, true, false, false≢true}
use Prim.Native.Nat.{ℕ}
use native.Mathlib.Decide.{ℕ_discrete}
use lib.Dec.{eqb}
use borrow.Author.Tests.{ne_eqb}
use Rattle.base.proofs.Cases.{by_test}
use Rattle.blocks.specs.declared.records.SignalRecord.{SignalRecord}
use Rattle.fields.specs.Fields.{value_ok}
use Rattle.rules.specs.declared.driven.Driven.{Driven}
use Rattle.rules.specs.declared.driven.Driven.TheVariants.{To, Null}
use Rattle.rules.specs.Statements.{equal_value}
use Rattle.rules.specs.Invariant.{ValueOf, Carries}
use Rattle.waveforms.specs.Pending.{null_word, driven_of, word_for}

abbrev Fails : Bool → Type 0
Fails x = x ≡ true → ⊥

not_a_value : (ty : ℕ) → ValueOf ty null_word → ⊥
unfolding value_ok
not_a_value ty =
    by_test Fails (eqb ty 0) _ _ (λ _. false≢true)
    (λ _. by_test Fails (eqb ty 1) _ _ (λ _. false≢true) (λ _. by_test Fails (eqb ty 2) _ _ (λ _. false≢true) (λ _. false≢true)))

pub value_held : (ty v : ℕ) → ValueOf ty v → driven_of v ≡ To v
unfolding driven_of
value_held ty v h = rw (ne_eqb v null_word (λ e. not_a_value ty (rw e at h)))

pub held : (s : SignalRecord) (v : Driven) → Carries s v → driven_of (word_for v) ≡ v
unfolding driven_of
held s (To v) h = value_held s.ty v h
held s Null h = refl

-- a word holds the value of v where it is v's own
module _ (w : ℕ) where
  holds_other : (x : ℕ) → (w ≡ x → ⊥) → false ≡ equal_value (driven_of w) (To x)
  unfolding driven_of equal_value
  holds_other x f = by_test (λ d. false ≡ equal_value d (To x)) (eqb w null_word) Null (To w) (λ e. refl) (λ e. sym (ne_eqb w x f))

  pub holds_value : (x : ℕ) → driven_of x ≡ To x → eqb w x ≡ equal_value (driven_of w) (To x)
  unfolding equal_value
  holds_value x h = elim (ℕ_discrete w x) [ yes e ↦ rw (e, h) | no f ↦ rw (ne_eqb w x f) (holds_other x f) ]

  pub holds_null : false ≡ equal_value (driven_of w) Null
  unfolding driven_of equal_value
  holds_null = by_test (λ d. false ≡ equal_value d Null) (eqb w null_word) Null (To w) (λ e. refl) (λ e. refl)
