-- One block: its bytes as a loop writes them, and its last word. Assumes nothing.
use mathlib.Core.Path.{◌≡◌, refl, ap, ap₂, ◌∙◌}
use mathlib.Core.List.{List, [], ◌++◌, append-nil}
use Prim.Native.Nat.{ℕ, zero, suc, ◌+◌, ◌*◌, ◌/◌, ◌%◌, ◌-◌, ◌<◌}
use native.Mathlib.Nat.{le_of_eq}
use native.Mathlib.Omega.{arith}
use lib.ListN.{length, set, take, drop, length-append, length-drop, drop_of_length-le, get_or-append}
use lib.Seq.{sets-eq, take_at}
use Rattle.base.specs.Below.{sum_below, list_below}
use Rattle.base.specs.Bytes.{byte_at, word_at}
use Rattle.base.proofs.Below.{list_length, list_at, write_next}
use Rattle.writing.specs.Written.{word_bytes}
use Rattle.writing.proofs.WriteLaws.{word_stored}
use Rattle.packing.specs.Packed.{Page, block_byte, words_of, last_word, block_of}

pub sum_same : (f g : ℕ → ℕ) (n : ℕ) → ((i : ℕ) → i < n → f i ≡ g i) → sum_below f n ≡ sum_below g n
unfolding sum_below
sum_same f g zero h = refl
sum_same f g (suc n) h = ap₂ ◌+◌ (sum_same f g n (λ i l. h i (omega arith))) (h n (omega arith))

-- the bytes f 0, f 1, .. have been written over those of d, n of them
abbrev pub Begun : (ℕ → ℕ) → List ℕ → ℕ → List ℕ → Type 0
Begun f d n out = out ≡ list_below f n ++ drop n d

pub begun : (f : ℕ → ℕ) (d : List ℕ) → Begun f d 0 d
unfolding list_below
begun f d = refl

pub begun_next : (f : ℕ → ℕ) (d out : List ℕ) (n : ℕ) → n < length d → Begun f d n out → Begun f d (n + 1) (set out n (f n))
begun_next f d out n h o = write_next f d out 0 n n (omega arith) h o

module _ (f : ℕ → ℕ) (d out : List ℕ) (l : length d ≡ 512) (o : Begun f d 510 out) where
  written_length : length out ≡ 512
  written_length = rw o (rw (length-append, list_length f 510, length-drop, l))

  written_at : (i : ℕ) → i < 510 → byte_at out i ≡ f i
  written_at i h =
      let g : i < length (list_below f 510) = rw (list_length f 510) h in
      rw o (get_or-append (list_below f 510) (drop 510 d) 0 i g ∙ list_at f 0 510 i h)

  -- the words that are summed are those of the block
  pub words_written : sum_below (λ i. word_at out (2 * i)) 255 ≡ sum_below (λ i. f (2 * i) + 256 * f (2 * i + 1)) 255
  words_written =
      sum_same _ _ 255 (λ i h. ap₂ (λ x y. x + 256 * y) (written_at (2 * i) (omega arith)) (written_at (2 * i + 1) (omega arith)))

  -- the last word is put behind them
  pub last_put : (w : ℕ) {one two : List ℕ} → one ≡ set out 510 (w % 256) → two ≡ set one 511 (w / 256) → two ≡ list_below f 510 ++ word_bytes w
  unfolding word_bytes
  last_put w p q =
      let t : take 510 out ≡ list_below f 510 = rw o (take_at (list_below f 510) (drop 510 d) 510 (list_length f 510)) in
      let e : drop 512 out ≡ [] = drop_of_length-le out (le_of_eq written_length) in
      word_stored out 510 w p q ∙ sets-eq (word_bytes w) out 510 (omega (arith, written_length)) ∙ rw (t, e, append-nil)

pub block_put : (b : ℕ) (p : Page) (d out : List ℕ) (s w : ℕ) {one two : List ℕ} → length d ≡ 512 → Begun (block_byte b p) d 510 out
    → s ≡ sum_below (λ i. word_at out (2 * i)) 255 → w ≡ (65537 - s % 65536) % 65536
    → one ≡ set out 510 (w % 256) → two ≡ set one 511 (w / 256) → two ≡ block_of b p
unfolding block_of last_word words_of
block_put b p d out s w l o e k x y =
    let g : w ≡ last_word b p = k ∙ ap (λ n. (65537 - n % 65536) % 65536) (e ∙ words_written (block_byte b p) d out l o) in
    last_put (block_byte b p) d out l o w x y ∙ ap (λ n. list_below (block_byte b p) 510 ++ word_bytes n) g
