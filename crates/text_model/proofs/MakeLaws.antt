-- What a text and its given records come to, refusal by refusal.
-- Assumes nothing.
use mathlib.Core.Path.{◌≡◌, refl, sym, ap, subst, ◌∙◌}
use mathlib.Core.Bool.{true}
use mathlib.Core.List.{List, []}
use mathlib.Core.Logic.{◌≢◌}
use Prim.Native.Nat.{ℕ, ◌*◌, ◌%◌, ◌≤◌, ◌<◌}
use native.Mathlib.Omega.{arith}
use borrow.Author.Tests.{le-leb, eq-eqb}
use lib.ListN.{length, take, replicate, length-replicate}
use lib.Seq.{sets, sets-eq, take_at}
use Rattle.base.specs.Below.{every}
use Rattle.base.specs.Refusals.{number_of}
use Rattle.base.specs.declared.refusal.Refusal.{Refusal}
use Rattle.base.specs.declared.refusal.Refusal.TheVariants.{ModelLength, BlockSum, BlockHead, Counts, Fields, Trees, Types, Owners, OrdersLength, AnswersLength, UnknownOrder, NoProcess, NotReady, StillReady, Stopped, DeltaLimit, NeverDue, TooLate, NoSignal, NullOnPlain, NoRoom, NothingDueNow, DueNow, NotSymmetric, NotAssociative, NoSentence, UnknownName}
use Rattle.base.specs.Rules.{first_failing}
use Rattle.base.proofs.Rules.{none_left, passes, later_decide, first_decides}
use Rattle.blocks.specs.Blocks.{length_ok, sums_ok, heads_ok}
use Rattle.blocks.specs.Records.{model_of}
use Rattle.blocks.specs.Totals.{totals_ok, block_rules}
use Rattle.blocks.proofs.BlockForms.{blocks_numbered}
use Rattle.model.specs.Rules.{record_rules, rules_of, refusal_of}
use Rattle.grammar.specs.Grammar.{Statement, Sentence, OneReading}
use Rattle.grammar.specs.Made.{made_nodes, made_statements}
use Rattle.grammar.proofs.MadeLaws.{length_nodes_of_body, length_statements_of}
use Rattle.packing.specs.Packed.{packed, blocks_in, PackedIn}
use Rattle.packing.proofs.PageLaws.{length_blocks, length_all}
use Rattle.given.specs.Given.{signals_given, variables_given, drivers_given, variables_from, drivers_from, model_from, parts_from, given_rules, rules_with}
use Rattle.given.proofs.Parts.{given_length, length_part, model_back}
use Rattle.reader.specs.Reading.{longest, Meaning, Read, Accepted as SentenceRead}
use Rattle.body_meaning.specs.Meaning.{Makes}
use Rattle.writing.specs.Written.{node_bytes, statement_bytes}
use Rattle.writing.proofs.WriteLaws.{length_record, length_nodes, length_statements}
use Rattle.text_model.specs.Texts.{Taken, GivenFits}
use Rattle.text_model.proofs.GivenLaws.{Within, given_numbered, given_within}
use Rattle.text_model.proofs.PageBytes.{sums_good, heads_good}
use Rattle.text_model.proofs.PageRecords.{PartsFit, pages_ordered, model_packed}

-- the rooms of `make`
pub node_room : length {A = ℕ} (replicate 4800 0) ≡ 4800
node_room = length-replicate {A = ℕ} 4800 0

pub statement_room : length {A = ℕ} (replicate 2400 0) ≡ 2400
statement_room = length-replicate {A = ℕ} 2400 0

pub block_room : length {A = ℕ} (replicate 10752 0) ≡ 10752
block_room = length-replicate {A = ℕ} 10752 0

-- a refusal
pub refused_taken : {text g model : List ℕ} {k number m i b : ℕ} → (number ≡ k) × (m ≡ 0) × (i ≡ 0) × (b ≡ 0) → k ≢ 0
    → (((p : Statement) → Sentence text p → longest < length text) → k ≡ 26)
    → ((p : Statement) → Sentence text p → length text ≤ longest → k ≡ first_failing (rules_with text g p)) → OneReading text → Taken text g number m i b model model
refused_taken q z n f o = record {
  no_sentence = λ h. q.0 ∙ n h;
  sentence = λ p s l. q.0 ∙ f p s l;
  accepted = λ e. absurd (z (sym q.0 ∙ e));
  refused = λ e. record { nothing_counted = (q.1, q.2, q.3); kept = refl };
  one_reading = o;
}

-- a refusal by name has a number
pub number_some : (e : Refusal) → number_of e ≢ 0
number_some ModelLength z = omega (arith, z)
number_some BlockSum z = omega (arith, z)
number_some BlockHead z = omega (arith, z)
number_some Counts z = omega (arith, z)
number_some Fields z = omega (arith, z)
number_some Trees z = omega (arith, z)
number_some Types z = omega (arith, z)
number_some Owners z = omega (arith, z)
number_some OrdersLength z = omega (arith, z)
number_some AnswersLength z = omega (arith, z)
number_some UnknownOrder z = omega (arith, z)
number_some NoProcess z = omega (arith, z)
number_some NotReady z = omega (arith, z)
number_some StillReady z = omega (arith, z)
number_some Stopped z = omega (arith, z)
number_some DeltaLimit z = omega (arith, z)
number_some NeverDue z = omega (arith, z)
number_some TooLate z = omega (arith, z)
number_some NoSignal z = omega (arith, z)
number_some NullOnPlain z = omega (arith, z)
number_some NoRoom z = omega (arith, z)
number_some NothingDueNow z = omega (arith, z)
number_some DueNow z = omega (arith, z)
number_some NotSymmetric z = omega (arith, z)
number_some NotAssociative z = omega (arith, z)
number_some NoSentence z = omega (arith, z)
number_some UnknownName z = omega (arith, z)

-- 26
pub unread_taken : {text g model : List ℕ} {number x y m i b : ℕ} {r s t u : List ℕ} {k : ℕ} → Read text k x y r s t u → k ≢ 0 → (number ≡ 26) × (m ≡ 0) × (i ≡ 0) × (b ≡ 0)
    → Taken text g number m i b model model
unread_taken r n q =
    let none = (r.refused (r.one_number n)).no_sentence in
    refused_taken q (λ e. omega (arith, e)) (λ h. refl) (λ p s l. absurd (omega (arith, none p s, l))) r.one_reading

pub unread : {text g model : List ℕ} (e : Refusal) {x y : ℕ} {r s t u : List ℕ} → Read text (number_of e) x y r s t u → Taken text g (number_of e) 0 0 0 model model
unread e r = unread_taken r (number_some e) (r.one_number (number_some e), refl, refl, refl)

-- bytes stored at the front
pub front_stored : (old vs : List ℕ) (n : ℕ) {new : List ℕ} → new ≡ sets old 0 vs → length vs ≡ n → n ≤ length old → take n new ≡ vs
front_stored old vs n e l h = rw (e, sets-eq vs old 0 (omega (arith, l))) (take_at vs _ n l)

-- a text that is a sentence
module _ {text : List ℕ} (g : List ℕ) {m i : ℕ} {n n' s s' : List ℕ} (a : SentenceRead text m i n n' s s') (one : OneReading text) where
  pub counted_nodes : m ≡ length (made_nodes a.tree)
  counted_nodes = a.nodes_counted ∙ sym (length_nodes_of_body 0 a.tree)

  pub counted_statements : i ≡ length (made_statements a.tree)
  counted_statements = a.statements_counted ∙ sym (length_statements_of 0 0 a.tree)

  of_all : {k : ℕ} → k ≡ first_failing (rules_with text g a.tree) → (p : Statement) → Sentence text p → length text ≤ longest → k ≡ first_failing (rules_with text g p)
  of_all {k} e p s l = subst (λ p. k ≡ first_failing (rules_with text g p)) (one a.tree p a.sentence s) e

  is_one : {k : ℕ} → ((p : Statement) → Sentence text p → longest < length text) → k ≡ 26
  is_one h = absurd (omega (arith, h a.tree a.sentence, a.short))

  -- 27 or 4
  pub early_taken : {model : List ℕ} {k number m' i' b : ℕ} → (number ≡ k) × (m' ≡ 0) × (i' ≡ 0) × (b ≡ 0) → k ≢ 0 → k ≡ first_failing (given_rules text g a.tree)
      → Taken text g number m' i' b model model
  unfolding rules_with
  early_taken q z e =
      let decided = first_decides (given_rules text g a.tree) (record_rules (model_from g a.tree)) (λ y. z (e ∙ y)) in
      refused_taken q z is_one (of_all (e ∙ sym decided)) one

  -- the parts of records that fit
  module _ (zero_found : 0 ≡ first_failing (given_rules text g a.tree)) where
    pub within : Within g a.tree
    within = given_within text g a.tree (sym zero_found)

    record Lengths : Type 0 where
      pub signals : length (parts_from g a.tree).signals ≡ 12 * signals_given g
      pub variables : length (parts_from g a.tree).variables ≡ 12 * variables_given g
      pub processes : length (parts_from g a.tree).processes ≡ 12
      pub drivers : length (parts_from g a.tree).drivers ≡ 12 * drivers_given g
      pub nodes : length (parts_from g a.tree).nodes ≡ 12 * length (made_nodes a.tree)
      pub statements : length (parts_from g a.tree).statements ≡ 12 * length (made_statements a.tree)

    lengths : Lengths
    unfolding parts_from
    lengths =
        let l = given_length g within.fits.whole in
        record {
          signals = length_part g 3 (signals_given g) (omega (arith, l));
          variables = length_part g (variables_from g) (variables_given g) (omega (arith, l));
          processes = length_record 0 (length (made_statements a.tree)) 0 0 0;
          drivers = length_part g (drivers_from g) (drivers_given g) (omega (arith, l));
          nodes = length_nodes (made_nodes a.tree);
          statements = length_statements (made_statements a.tree);
        }

    parts_fit : PartsFit (parts_from g a.tree)
    parts_fit = record {
      signals = omega (arith, lengths.signals);
      variables = omega (arith, lengths.variables);
      processes = omega (arith, lengths.processes);
      drivers = omega (arith, lengths.drivers);
      nodes = omega (arith, lengths.nodes);
      statements = omega (arith, lengths.statements);
    }

    pub few_blocks : (1 ≤ blocks_in (parts_from g a.tree)) × (blocks_in (parts_from g a.tree) ≤ 21)
    few_blocks =
        let l = lengths in
        let w = within in (
          omega (arith, l.processes),
          omega (arith, l.signals, l.variables, l.processes, l.drivers, l.nodes, l.statements, w.fits.signals, w.fits.variables, w.fits.drivers, w.nodes, w.statements),
        )

    pub length_packed : length (packed (parts_from g a.tree)) ≡ 512 * blocks_in (parts_from g a.tree)
    unfolding packed
    length_packed = length_blocks 0 _ ∙ ap (λ n. 512 * n) (length_all (parts_from g a.tree))

    pub held : model_of (packed (parts_from g a.tree)) ≡ model_from g a.tree
    held = model_packed (parts_from g a.tree) parts_fit ∙ model_back text g a.tree a.sentence within.fits.whole

    long_enough : length_ok (packed (parts_from g a.tree)) ≡ true
    unfolding length_ok every
    long_enough =
        let b = few_blocks in
        let l = length_packed in
        let whole = eq-eqb (length (packed (parts_from g a.tree)) % 512) 0 (omega (arith, l)) in
        let least = le-leb 512 (length (packed (parts_from g a.tree))) (omega (arith, l, b)) in
        let most = le-leb (length (packed (parts_from g a.tree))) 32768 (omega (arith, l, b)) in
        rw (whole, least, most)

    blocks_good : first_failing (block_rules (packed (parts_from g a.tree))) ≡ 0
    unfolding block_rules packed
    blocks_good =
        let o = pages_ordered (parts_from g a.tree) parts_fit in
        let bytes = packed (parts_from g a.tree) in
        passes 1 (length_ok bytes) _ refl long_enough
        ∙ passes 2 (sums_ok bytes) _ refl (sums_good _ o)
        ∙ passes 3 (heads_ok bytes) _ refl (heads_good _ o)
        ∙ passes 4 (totals_ok (model_of bytes)) [] refl (ap totals_ok held ∙ within.totals)
        ∙ sym none_left

    judged : refusal_of (packed (parts_from g a.tree)) ≡ first_failing (rules_with text g a.tree)
    unfolding refusal_of rules_of rules_with
    judged =
        let bytes = packed (parts_from g a.tree) in
        later_decide 4 (block_rules bytes) (record_rules (model_of bytes)) (blocks_numbered bytes) blocks_good
        ∙ ap (λ M. first_failing (record_rules M)) held
        ∙ sym (later_decide 27 (given_rules text g a.tree) (record_rules (model_from g a.tree)) (given_numbered text g a.tree) (sym zero_found))

    -- the blocks as they are put, and judged
    module _ {out out' : List ℕ} {b number : ℕ} (room : length out ≡ 10752) (put : PackedIn (parts_from g a.tree) out out' b) (j : number ≡ refusal_of (take (512 * b) out')) where
      pub front : take (512 * b) out' ≡ packed (parts_from g a.tree)
      front =
          let f = few_blocks in
          front_stored out (packed (parts_from g a.tree)) (512 * b) put.written (omega (arith, length_packed, put.blocks)) (omega (arith, f, put.blocks, room))

      number_is : number ≡ first_failing (rules_with text g a.tree)
      number_is = j ∙ ap refusal_of front ∙ judged

      pub late_taken : {model : List ℕ} {said m' i' c : ℕ} → (said ≡ number) × (m' ≡ 0) × (i' ≡ 0) × (c ≡ 0) → number ≢ 0 → Taken text g said m' i' c model model
      late_taken q z = refused_taken q z is_one (of_all number_is) one

      made : Makes a.tree (model_from g a.tree)
      unfolding model_from
      made = record { nodes = refl; statements = refl; processes = refl; few = omega (arith, within.nodes) }

      pub all_taken : {old new : List ℕ} → number ≡ 0 → Meaning text → new ≡ sets old 0 (take (512 * b) out') → Taken text g 0 m i b old new
      all_taken {old} z meaning e = record {
        no_sentence = λ h. is_one h;
        sentence = of_all (sym z ∙ number_is);
        accepted = λ y. record {
          tree = a.tree;
          sentence = a.sentence;
          nodes_counted = counted_nodes;
          statements_counted = counted_statements;
          blocks_counted = omega (arith, length_packed, put.blocks);
          few = omega (arith, few_blocks, put.blocks);
          written = e ∙ ap (λ l. sets old 0 l) front;
          holds = held;
          playable = sym (ap refusal_of front) ∙ sym j ∙ z;
          meaning = meaning a.tree (model_from g a.tree) a.sentence made;
        };
        refused = λ n. absurd (n refl);
        one_reading = one;
      }

-- a text that was read, whose names and totals were judged
module _ {text : List ℕ} (g : List ℕ) {k m i early : ℕ} {n n' s s' : List ℕ} (r : Read text k m i n n' s s') (z : k ≡ 0)
    (e : (p : Statement) → m ≡ length (made_nodes p) → i ≡ length (made_statements p) → early ≡ first_failing (given_rules text g p)) (w : early ≡ 0) where
  pub ready : 0 ≡ first_failing (given_rules text g (r.accepted z).tree)
  ready =
      let a = r.accepted z in
      sym w ∙ e a.tree (counted_nodes g a r.one_reading) (counted_statements g a r.one_reading)

  pub fitting : GivenFits g
  fitting = (within g (r.accepted z) r.one_reading ready).fits

  pub bounds : (m ≤ 400) × (i ≤ 200)
  bounds =
      let a = r.accepted z in
      let l = within g a r.one_reading ready in
      (omega (arith, counted_nodes g a r.one_reading, l.nodes), omega (arith, counted_statements g a r.one_reading, l.statements))

  -- the model is put
  pub put_there : {out out' : List ℕ} {b : ℕ} → length n ≡ 4800 → length s ≡ 2400
      → ((p : Statement) → take (12 * m) n' ≡ node_bytes (made_nodes p) → take (12 * i) s' ≡ statement_bytes (made_statements p) → PackedIn (parts_from g p) out out' b)
      → PackedIn (parts_from g (r.accepted z).tree) out out' b
  put_there x y h =
      let a = r.accepted z in
      let l = bounds in
      h a.tree
      (front_stored n (node_bytes (made_nodes a.tree)) (12 * m) a.nodes_written (omega (arith, length_nodes (made_nodes a.tree), counted_nodes g a r.one_reading)) (omega (arith, x, l)))
      (front_stored s (statement_bytes (made_statements a.tree)) (12 * i) a.written (omega (arith, length_statements (made_statements a.tree), counted_statements g a r.one_reading)) (omega (arith, y, l)))

  pub few_put : {out out' : List ℕ} {b : ℕ} → PackedIn (parts_from g (r.accepted z).tree) out out' b → b ≤ 21
  few_put p = omega (arith, p.blocks, few_blocks g (r.accepted z) r.one_reading ready)
