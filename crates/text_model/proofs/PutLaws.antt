-- The parts that are put into blocks are those of the given records and of the text.
-- Assumes nothing.
use mathlib.Core.Path.{◌≡◌, refl, ◌∙◌}
use mathlib.Core.List.{List}
use Prim.Native.Nat.{ℕ, ◌+◌, ◌*◌, ◌-◌, ◌/◌}
use native.Mathlib.Omega.{arith}
use lib.ListN.{length, take, drop, replicate}
use lib.Seq.{sets}
use Rattle.base.specs.Bytes.{ByteIs}
use Rattle.grammar.specs.Grammar.{Statement}
use Rattle.grammar.specs.Made.{made_nodes, made_statements}
use Rattle.given.specs.Given.{parts_from}
use Rattle.given.proofs.Parts.{given_length}
use Rattle.packing.specs.Packed.{PackedIn}
use Rattle.writing.specs.Written.{word_bytes, record_bytes, node_bytes, statement_bytes}
use Rattle.writing.proofs.WriteLaws.{length_statements}
use Rattle.text_model.specs.Texts.{GivenFits}

process_put : (c : ℕ) → sets (replicate 12 0) 0 (record_bytes 0 c 0 0 0) ≡ record_bytes 0 c 0 0 0
unfolding record_bytes word_bytes
process_put c = refl

module _ (g : List ℕ) (f : GivenFits g) {a b d : ℕ} (s : ByteIs g 0 a) (v : ByteIs g 1 b) (w : ByteIs g 2 d) where
  pub all_there : length g ≡ 3 + 12 * a + 12 * b + 12 * d
  all_there = given_length g f.whole ∙ rw (s.value, v.value, w.value)

  pub parts_put : (p : Statement) {process nodes statements out out' : List ℕ} {n : ℕ} → nodes ≡ node_bytes (made_nodes p) → statements ≡ statement_bytes (made_statements p)
      → process ≡ sets (replicate 12 0) 0 (record_bytes 0 (length statements / 12) 0 0 0)
      → PackedIn
      (record {
        signals = take (3 + 12 * a - 3) (drop 3 g);
        variables = take (3 + 12 * a + 12 * b - (3 + 12 * a)) (drop (3 + 12 * a) g);
        processes = process;
        drivers = take (3 + 12 * a + 12 * b + 12 * d - (3 + 12 * a + 12 * b)) (drop (3 + 12 * a + 12 * b) g);
        nodes = nodes;
        statements = statements;
      })
      out
      out'
      n → PackedIn (parts_from g p) out out' n
  unfolding parts_from
  parts_put p {statements = statements} x y z h =
      let one : 3 + 12 * a - 3 ≡ 12 * a = omega arith in
      let two : 3 + 12 * a + 12 * b - (3 + 12 * a) ≡ 12 * b = omega arith in
      let three : 3 + 12 * a + 12 * b + 12 * d - (3 + 12 * a + 12 * b) ≡ 12 * d = omega arith in
      let count : length statements / 12 ≡ length (made_statements p) = rw (y, length_statements) (omega arith) in
      rw (z, count, process_put, x, y, one, two, three, s.value, v.value, w.value) at h
