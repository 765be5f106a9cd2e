-- Blocks one behind the other, as loops put them. Assumes nothing.
use mathlib.Core.Path.{◌≡◌, refl, sym, ap, ap₂, ◌∙◌}
use mathlib.Core.List.{List, [], ◌∷◌, ◌++◌, append_assoc, append-nil}
use mathlib.Core.Logic.{⊎_elim}
use Prim.Native.Nat.{ℕ, suc, ◌+◌, ◌*◌, ◌/◌, ◌-◌, ◌≤◌, ◌<◌, min}
use native.Mathlib.Nat.{add-zero}
use native.Mathlib.Omega.{arith}
use lib.ListN.{length, take, drop, length-append, length-drop}
use lib.Seq.{sets, sets-eq, length-sets, take_all}
use borrow.Rule.Slice.PartMut.{put_mid, Post-is}
use Rattle.base.specs.Below.{list_below}
use Rattle.base.proofs.Below.{split, list_length, list_more}
use Rattle.writing.specs.Written.{word_bytes}
use Rattle.writing.proofs.WriteLaws.{sets_append}
use Rattle.packing.specs.Packed.{Page, block_byte, block_of, blocks_from, blocks_for, page_of, pages_of, Parts, pages, packed, blocks_in, PackedIn}

pub length_block : (b : ℕ) (p : Page) → length (block_of b p) ≡ 512
unfolding block_of word_bytes
length_block b p = rw (length-append, list_length (block_byte b p) 510)

pub length_blocks : (b : ℕ) (ps : List Page) → length (blocks_from b ps) ≡ 512 * length ps
unfolding blocks_from
length_blocks b [] = refl
length_blocks b (p ∷ ps) = rw (length-append, length_block b p, length_blocks (b + 1) ps) (omega arith)

pub length_pages : (kind : ℕ) (r : List ℕ) → length (pages_of kind r) ≡ blocks_for (length r / 12)
unfolding pages_of
length_pages kind r = list_length (page_of kind r) _

pub blocks_append : (b : ℕ) (ps qs : List Page) → blocks_from b (ps ++ qs) ≡ blocks_from b ps ++ blocks_from (b + length ps) qs
unfolding blocks_from
blocks_append b [] qs = rw add-zero
blocks_append b (p ∷ ps) qs =
    let e : b + 1 + length ps ≡ b + suc (length ps) = omega arith in
    rw (blocks_append (b + 1) ps qs, e, append_assoc)

one_block : (b : ℕ) (p : Page) → blocks_from b (p ∷ []) ≡ block_of b p
unfolding blocks_from
one_block b p = append-nil (block_of b p)

-- what a block holds of the records' bytes
pub page_part : (r : List ℕ) (from end : ℕ) → end ≡ min (from + 504) (length r) → from ≤ length r → take (end - from) (drop from r) ≡ take 504 (drop from r)
page_part r from end e h =
    let l : length (drop from r) ≡ length r - from = length-drop from r in
    ⊎_elim
    (λ (g : length r < from + 504).
    take_all (end - from) (drop from r) (omega arith) ∙ sym (take_all 504 (drop from r) (omega arith)))
    (λ (g : from + 504 ≤ length r). let n : end - from ≡ 504 = omega arith in ap (λ k. take k (drop from r)) n)
    (split (length r) (from + 504))

-- a part put back is bytes stored there
pub part_stored : (out ys : List ℕ) (a e : ℕ) → a ≤ e → e ≤ length out → length ys ≡ e - a → put_mid a (e - a) out ys ≡ sets out a ys
part_stored out ys a e h l k =
    let g : a + length ys ≡ e = omega arith in
    rw (Post-is a e out h, ← g) (sym (sets-eq ys out a (omega arith) ∙ append_assoc (take a out) ys _))

-- the loop over the blocks of one kind
module _ (out₀ : List ℕ) (b kind : ℕ) (r : List ℕ) where
  abbrev pub Put : ℕ → List ℕ → Type 0
  Put j out = out ≡ sets out₀ (512 * b) (blocks_from b (list_below (page_of kind r) j))

  pub put_none : Put 0 out₀
  unfolding list_below blocks_from
  put_none = refl

  pub put_next : (j : ℕ) (out part bytes : List ℕ) → Put j out → length out ≡ length out₀ → 512 * (b + j) + 512 ≤ length out₀ → bytes ≡ take 504 (drop (504 * j) r)
      → part ≡ block_of (b + j) (record { kind = kind; bytes = bytes }) → Put (j + 1) (put_mid (512 * (b + j)) (512 * (b + j) + 512 - 512 * (b + j)) out part) × (length (put_mid (512 * (b + j)) (512 * (b + j) + 512 - 512 * (b + j)) out part) ≡ length out₀)
  put_next j out part bytes o l h e p =
      let at = 512 * (b + j) in
      let B = blocks_from b (list_below (page_of kind r) j) in
      let k : length B ≡ 512 * j = length_blocks b _ ∙ ap (λ n. 512 * n) (list_length (page_of kind r) j) in
      let q : part ≡ blocks_from (b + length (list_below (page_of kind r) j)) (page_of kind r j ∷ []) =
      rw (list_length (page_of kind r) j, one_block, p, e) in
      let n : length part ≡ at + 512 - at = rw (p, length_block) (omega arith) in
      let g : at ≡ 512 * b + length B = omega arith in
      let more : B ++ part ≡ blocks_from b (list_below (page_of kind r) (j + 1)) = rw (list_more, blocks_append, q) in
      let stored : put_mid at (at + 512 - at) out part ≡ sets out at part = part_stored out part at (at + 512) (omega arith) (omega arith) n in (
        stored ∙ ap₂ (λ x y. sets x y part) o g ∙ sym (sets_append out₀ (512 * b) B part) ∙ ap (sets out₀ (512 * b)) more,
        ap length stored ∙ length-sets out at part ∙ l,
      )

-- the blocks of some kinds stand at the front, and there are b of them
pub record Stage (out₀ : List ℕ) (ps : List Page) (b : ℕ) (out : List ℕ) : Type 0 where
  pub blocks : b ≡ length ps
  pub written : out ≡ sets out₀ 0 (blocks_from 0 ps)
  pub long : length out ≡ length out₀

pub no_stage : (out₀ : List ℕ) → Stage out₀ [] 0 out₀
unfolding blocks_from
no_stage out₀ = record { blocks = refl; written = refl; long = refl }

-- those of the next kind behind them
pub next_stage : {out₀ out out' : List ℕ} {ps : List Page} {b b' : ℕ} (kind : ℕ) (r : List ℕ) → Stage out₀ ps b out
    → (b' ≡ b + blocks_for (length r / 12)) × (out' ≡ sets out (512 * b) (blocks_from b (pages_of kind r)))
    → Stage out₀ (ps ++ pages_of kind r) b' out'
next_stage {out₀} {out} {out'} {ps} {b} kind r s (n, t) =
    let g : 512 * b ≡ 0 + length (blocks_from 0 ps) = omega (arith, length_blocks 0 ps, s.blocks) in
    let h : 0 + length ps ≡ b = omega (arith, s.blocks) in
    let joined : blocks_from 0 ps ++ blocks_from b (pages_of kind r) ≡ blocks_from 0 (ps ++ pages_of kind r) = rw (blocks_append, h) in
    record {
      blocks = rw (length-append, length_pages) (omega (arith, s.blocks, n));
      written = t ∙ ap₂ (λ x y. sets x y (blocks_from b (pages_of kind r))) s.written g ∙ sym (sets_append out₀ 0 (blocks_from 0 ps) (blocks_from b (pages_of kind r))) ∙ ap (sets out₀ 0) joined;
      long = ap length t ∙ length-sets out (512 * b) (blocks_from b (pages_of kind r)) ∙ s.long;
    }

pub length_all : (s : Parts) → length (pages s) ≡ blocks_in s
unfolding pages
length_all s = simp (length-append, length_pages)

pub all_staged : (s : Parts) {out₀ out : List ℕ} {b : ℕ}
    → Stage out₀ (((((([] ++ pages_of 1 s.signals) ++ pages_of 2 s.variables) ++ pages_of 3 s.processes) ++ pages_of 4 s.drivers) ++ pages_of 5 s.nodes) ++ pages_of 6 s.statements) b out
    → PackedIn s out₀ out b
unfolding packed pages
all_staged s {out₀} t = record { blocks = t.blocks ∙ simp (length-append, length_pages) (omega arith); written = t.written ∙ rw (append_assoc, append_assoc, append_assoc, append_assoc) }
