-- The records that blocks hold are those of their pages, kind by kind.
-- Assumes nothing.
use mathlib.Core.Path.{◌≡◌, refl, sym, ap, ap₂, ◌∙◌}
use mathlib.Core.Bool.{true, false}
use mathlib.Core.List.{List, [], ◌∷◌, ◌++◌, map, append_assoc, append-nil}
use Prim.Native.Nat.{ℕ, zero, suc, ◌+◌, ◌*◌, ◌/◌, ◌-◌, ◌≤◌, ◌<◌, min}
use native.Mathlib.Nat.{add-zero}
use native.Mathlib.Omega.{arith}
use borrow.Author.Tests.{eq-eqb, ne_eqb}
use lib.Dec.{eqb}
use mathlib.Core.Logic.{◌≢◌}
use lib.ListN.{length, take, drop, length-take, length-drop}
use lib.Seq.{length-take-le, get_or-take, get_or-drop, ext_get_or, take-add, take-take, drop_at, drop-drop}
use Rattle.base.specs.Below.{join_below, list_below}
use Rattle.base.specs.Cases.{◌∣◌, ◌⇒◌}
use Rattle.base.proofs.Below.{list_none, list_more, list_same, join_none, join_same}
use Rattle.blocks.specs.Blocks.{blocks_of, count_in, start_at, starts_in, starts_of, part_at}
use Rattle.blocks.specs.Records.{model_of, records_of, signal_of, variable_of, process_of, driver_of, node_of, statement_of, row_of}
use Rattle.packing.specs.Packed.{Page, blocks_from, blocks_for, page_of, pages_of, records_in, Parts, model_in, pages, packed}
use Rattle.packing.proofs.PageLaws.{length_blocks}
use Rattle.text_model.proofs.PageBytes.{PageFits, Ordered, ordered_kind, page_at, fits_at, byte_rest, how_many, byte_in, kind_is, count_is}

-- maps over lists and joined lists
module _ {A B : Type 0} (h : A → B) where
  map_append : (xs ys : List A) → map h (xs ++ ys) ≡ map h xs ++ map h ys
  map_append [] ys = refl
  map_append (x ∷ xs) ys = ap (λ l. h x ∷ l) (map_append xs ys)

  map_list : (f : ℕ → A) (n : ℕ) → map h (list_below f n) ≡ list_below (λ j. h (f j)) n
  unfolding list_below
  map_list f zero = refl
  map_list f (suc n) = rw (map_append (list_below f n) (f n ∷ []), map_list f n)

  map_join : (f : ℕ → List A) (n : ℕ) → map h (join_below f n) ≡ join_below (λ j. map h (f j)) n
  unfolding join_below
  map_join f zero = refl
  map_join f (suc n) = rw (map_append (join_below f n) (f n), map_join f n)

join_first : {A : Type 0} (f : ℕ → List A) (n : ℕ) → join_below f (suc n) ≡ f 0 ++ join_below (λ j. f (suc j)) n
unfolding join_below
join_first f zero = sym (append-nil (f 0))
join_first f (suc n) = rw (join_first f n, append_assoc)

join_empty : {A : Type 0} (f : ℕ → List A) (n : ℕ) → ((j : ℕ) → f j ≡ []) → join_below f n ≡ []
unfolding join_below
join_empty f zero h = refl
join_empty f (suc n) h = rw (join_empty f n h, h n)

-- a list in two parts
list_two : {A : Type 0} (f : ℕ → A) (a b : ℕ) → list_below f (a + b) ≡ list_below f a ++ list_below (λ i. f (a + i)) b
list_two f a zero = rw (add-zero, list_none (λ i. f (a + i))) (sym (append-nil (list_below f a)))
list_two f a (suc b) =
    let e : a + suc b ≡ a + b + 1 = omega arith in
    let n : suc b ≡ b + 1 = omega arith in
    rw (e, n, list_more f (a + b), list_more (λ i. f (a + i)) b, list_two f a b) (append_assoc (list_below f a) (list_below (λ i. f (a + i)) b) (f (a + b) ∷ []))

-- what is made of each page, one after the other
joined : {A : Type 0} → (Page → List A) → List Page → List A
joined g [] = []
joined g (p ∷ ps) = g p ++ joined g ps

module _ {A : Type 0} (g : Page → List A) where
  joined_append : (ps qs : List Page) → joined g (ps ++ qs) ≡ joined g ps ++ joined g qs
  unfolding joined
  joined_append [] qs = refl
  joined_append (p ∷ ps) qs = rw (joined_append ps qs, append_assoc)

  joined_list : (f : ℕ → Page) (n : ℕ) → joined g (list_below f n) ≡ join_below (λ j. g (f j)) n
  unfolding joined list_below join_below
  joined_list f zero = refl
  joined_list f (suc n) = rw (joined_append (list_below f n) (f n ∷ []), joined_list f n, append-nil)

  joined_at : (ps : List Page) → join_below (λ j. g (page_at ps j)) (length ps) ≡ joined g ps
  unfolding joined
  joined_at [] = join_none (λ j. g (page_at [] j))
  joined_at (p ∷ ps) = join_first (λ j. g (page_at (p ∷ ps) j)) (length ps) ∙ ap (λ l. g p ++ l) (joined_at ps)

-- the records of a page that is of a kind
abbrev taken : {A : Type 0} → (List ℕ → A) → ℕ → Page → List A
taken read k p = eqb p.kind k ⇒ records_in read p.bytes ∣ []

-- a record of a block is that of its page
module _ (ps : List Page) (j : ℕ) (h : j < length ps) (fits : PageFits (page_at ps j)) where
  length_twelve : (m : List ℕ) (s : ℕ) → s + 12 ≤ length m → length (part_at m s) ≡ 12
  length_twelve m s l = length-take-le 12 (drop s m) (omega (arith, length-drop s m))

  part_same : (n : ℕ) → n < length (page_at ps j).bytes / 12 → part_at (blocks_from 0 ps) (start_at j n) ≡ part_at (page_at ps j).bytes (12 * n)
  part_same n l =
      let a : length (part_at (blocks_from 0 ps) (start_at j n)) ≡ 12 = length_twelve (blocks_from 0 ps) (start_at j n) (omega (arith, length_blocks 0 ps, fits.short)) in
      let b : length (part_at (page_at ps j).bytes (12 * n)) ≡ 12 = length_twelve (page_at ps j).bytes (12 * n) (omega arith) in
      ext_get_or 0 (part_at (blocks_from 0 ps) (start_at j n)) (part_at (page_at ps j).bytes (12 * n)) (a ∙ sym b)
      (λ i m.
      let s : i < 12 = rw a at m in
      get_or-take 12 (drop (start_at j n) (blocks_from 0 ps)) i 0 s
      ∙ get_or-drop (start_at j n) (blocks_from 0 ps) i 0
      ∙ byte_in ps j h (4 + (12 * n + i)) (start_at j n + i) (omega arith) (omega (arith, fits.short))
      ∙ byte_rest j (page_at ps j) (4 + (12 * n + i)) (12 * n + i) refl
      ∙ sym (get_or-drop (12 * n) (page_at ps j).bytes i 0)
      ∙ sym (get_or-take 12 (drop (12 * n) (page_at ps j).bytes) i 0 s))

  block_records : {A : Type 0} (read : List ℕ → A) (k : ℕ) → map (λ start. read (part_at (blocks_from 0 ps) start)) (starts_in k (blocks_from 0 ps) j) ≡ taken read k (page_at ps j)
  unfolding starts_in count_in records_in
  block_records read k =
      map_list (λ start. read (part_at (blocks_from 0 ps) start)) (start_at j) (count_in k (blocks_from 0 ps) j)
      ∙ rw (kind_is ps j h, count_is ps j h)
      (elim (eqb (page_at ps j).kind k) as (λ b. list_below (λ n. read (part_at (blocks_from 0 ps) (start_at j n))) (b ⇒ length (page_at ps j).bytes / 12 ∣ 0) ≡ (b ⇒ list_below (λ n. read (part_at (page_at ps j).bytes (12 * n))) (length (page_at ps j).bytes / 12) ∣ [])) [
        | true ↦ list_same (λ n. read (part_at (blocks_from 0 ps) (start_at j n))) (λ n. read (part_at (page_at ps j).bytes (12 * n))) (length (page_at ps j).bytes / 12) (λ n l. ap read (part_same n l))
        | false ↦ list_none (λ n. read (part_at (blocks_from 0 ps) (start_at j n)))
      ])

all_records : {A : Type 0} (read : List ℕ → A) (k : ℕ) (ps : List Page) → Ordered 0 ps → records_of read k (blocks_from 0 ps) ≡ joined (taken read k) ps
unfolding records_of starts_of
all_records read k ps o =
    map_join (λ start. read (part_at (blocks_from 0 ps) start)) (starts_in k (blocks_from 0 ps)) (blocks_of (blocks_from 0 ps))
    ∙ rw (how_many ps)
    (join_same (λ j. map (λ start. read (part_at (blocks_from 0 ps) start)) (starts_in k (blocks_from 0 ps) j)) (λ j. taken read k (page_at ps j)) (length ps) (λ j l. block_records ps j l (fits_at 0 ps o j l) read k)
    ∙ joined_at (taken read k) ps)

-- records cut into pages
part_of_take : (l : List ℕ) (w i : ℕ) → 12 * i + 12 ≤ w → 12 * i ≤ length l → part_at (take w l) (12 * i) ≡ part_at l (12 * i)
part_of_take l w i a b =
    let e : w ≡ 12 * i + (w - 12 * i) = omega arith in
    let k : length (take (12 * i) l) ≡ 12 * i = length-take-le (12 * i) l b in
    let f : 12 ≤ w - 12 * i = omega arith in
    rw (e, take-add, drop_at (take (12 * i) l) _ (12 * i) k, take-take 12 _ _ f)

module _ {A : Type 0} (read : List ℕ → A) (r : List ℕ) (n : ℕ) (e : length r ≡ 12 * n) where
  page_part : (c i : ℕ) → 42 * c + i < n → i < 42 → part_at (take 504 (drop (504 * c) r)) (12 * i) ≡ part_at r (12 * (42 * c + i))
  page_part c i a b =
      let at : 504 * c + 12 * i ≡ 12 * (42 * c + i) = omega arith in
      part_of_take (drop (504 * c) r) 504 i (omega arith) (omega (arith, length-drop (504 * c) r))
      ∙ ap (take 12) (drop-drop (12 * i) (504 * c) r ∙ ap (λ k. drop k r) at)

  page_records : (c : ℕ) → 42 * c ≤ n → records_in read (take 504 (drop (504 * c) r)) ≡ list_below (λ i. read (part_at r (12 * (42 * c + i)))) (min 42 (n - 42 * c))
  unfolding records_in
  page_records c h =
      let count : length (take 504 (drop (504 * c) r)) / 12 ≡ min 42 (n - 42 * c) = rw (length-take, length-drop, e) (omega arith) in
      rw count
      (list_same (λ i. read (part_at (take 504 (drop (504 * c) r)) (12 * i))) (λ i. read (part_at r (12 * (42 * c + i)))) (min 42 (n - 42 * c)) (λ i l. ap read (page_part c i (omega arith) (omega arith))))

  page_join : (c : ℕ) → 42 * c ≤ n + 41 → join_below (λ j. records_in read (take 504 (drop (504 * j) r))) c ≡ list_below (λ i. read (part_at r (12 * i))) (min (42 * c) n)
  unfolding join_below
  page_join zero h =
      let z : min (42 * 0) n ≡ 0 = omega arith in
      rw (z, list_none (λ i. read (part_at r (12 * i))))
  page_join (suc c) h =
      let m : min (42 * c) n ≡ 42 * c = omega arith in
      let s : min (42 * suc c) n ≡ 42 * c + min 42 (n - 42 * c) = omega arith in
      rw (s, list_two (λ i. read (part_at r (12 * i))) (42 * c) (min 42 (n - 42 * c)))
      (ap₂ ◌++◌ (page_join c (omega arith) ∙ ap (list_below (λ i. read (part_at r (12 * i)))) m) (page_records c (omega arith)))

  same_kind : (k : ℕ) → joined (taken read k) (pages_of k r) ≡ records_in read r
  unfolding pages_of records_in
  same_kind k =
      let count : length r / 12 ≡ n = omega (arith, e) in
      let whole : min (42 * ((n + 41) / 42)) n ≡ n = omega arith in
      joined_list (taken read k) (page_of k r) (blocks_for (length r / 12))
      ∙ rw count
      (join_same (λ j. taken read k (page_of k r j)) (λ j. records_in read (take 504 (drop (504 * j) r))) ((n + 41) / 42) (λ j l. rw (eq-eqb k k refl))
      ∙ page_join ((n + 41) / 42) (omega arith)
      ∙ ap (list_below (λ i. read (part_at r (12 * i)))) whole)

other_kind : {A : Type 0} (read : List ℕ → A) (r : List ℕ) (kind k : ℕ) → kind ≢ k → joined (taken read k) (pages_of kind r) ≡ []
unfolding pages_of
other_kind read r kind k h =
    joined_list (taken read k) (page_of kind r) (blocks_for (length r / 12))
    ∙ join_empty (λ j. taken read k (page_of kind r j)) (blocks_for (length r / 12)) (λ j. rw (ne_eqb kind k h))

-- parts of whole records
pub record PartsFit (s : Parts) : Type 0 where
  pub signals : length s.signals ≡ 12 * (length s.signals / 12)
  pub variables : length s.variables ≡ 12 * (length s.variables / 12)
  pub processes : length s.processes ≡ 12 * (length s.processes / 12)
  pub drivers : length s.drivers ≡ 12 * (length s.drivers / 12)
  pub nodes : length s.nodes ≡ 12 * (length s.nodes / 12)
  pub statements : length s.statements ≡ 12 * (length s.statements / 12)

page_fits : (kind : ℕ) (r : List ℕ) → 1 ≤ kind → kind ≤ 7 → length r ≡ 12 * (length r / 12) → (j : ℕ) → ((page_of kind r j).kind ≡ kind) × PageFits (page_of kind r j)
page_fits kind r a b e j = (
  refl,
  record {
    low = a;
    high = b;
    short = rw length-take (omega arith);
    whole = rw (length-take, length-drop) (omega (arith, e));
  },
)

ordered_pages : (kind lo : ℕ) (r : List ℕ) (qs : List Page) → lo ≤ kind → 1 ≤ kind → kind ≤ 7 → length r ≡ 12 * (length r / 12) → Ordered kind qs → Ordered lo (pages_of kind r ++ qs)
unfolding pages_of
ordered_pages kind lo r qs l a b e o = ordered_kind (page_of kind r) kind lo (blocks_for (length r / 12)) qs l (λ j m. page_fits kind r a b e j) o

module _ (s : Parts) (f : PartsFit s) where
  pub pages_ordered : Ordered 0 (pages s)
  unfolding pages
  pages_ordered =
      let last : Ordered 5 (pages_of 6 s.statements) = rw append-nil at (ordered_pages 6 5 s.statements [] (omega arith) (omega arith) (omega arith) f.statements tt) in
      ordered_pages 1 0 s.signals _ (omega arith) (omega arith) (omega arith) f.signals
      (ordered_pages 2 1 s.variables _ (omega arith) (omega arith) (omega arith) f.variables
      (ordered_pages 3 2 s.processes _ (omega arith) (omega arith) (omega arith) f.processes
      (ordered_pages 4 3 s.drivers _ (omega arith) (omega arith) (omega arith) f.drivers
      (ordered_pages 5 4 s.nodes _ (omega arith) (omega arith) (omega arith) f.nodes last))))

  six : {A : Type 0} (g : Page → List A)
      → joined g (pages s) ≡ joined g (pages_of 1 s.signals) ++ (joined g (pages_of 2 s.variables) ++ (joined g (pages_of 3 s.processes) ++ (joined g (pages_of 4 s.drivers) ++ (joined g (pages_of 5 s.nodes) ++ joined g (pages_of 6 s.statements)))))
  unfolding pages
  six g =
      rw (
        joined_append g (pages_of 1 s.signals) _,
        joined_append g (pages_of 2 s.variables) _,
        joined_append g (pages_of 3 s.processes) _,
        joined_append g (pages_of 4 s.drivers) _,
        joined_append g (pages_of 5 s.nodes) _,
      )

  -- the six kinds, and none of the seventh
  module _ {A : Type 0} (read : List ℕ → A) where
    first_kind : records_of read 1 (packed s) ≡ records_in read s.signals
    unfolding packed
    first_kind =
        all_records read 1 (pages s) pages_ordered
        ∙ rw (
          six (taken read 1),
          same_kind read s.signals _ f.signals 1,
          other_kind read s.variables 2 1 (λ e. omega arith),
          other_kind read s.processes 3 1 (λ e. omega arith),
          other_kind read s.drivers 4 1 (λ e. omega arith),
          other_kind read s.nodes 5 1 (λ e. omega arith),
          other_kind read s.statements 6 1 (λ e. omega arith),
          append-nil,
        )

    second_kind : records_of read 2 (packed s) ≡ records_in read s.variables
    unfolding packed
    second_kind =
        all_records read 2 (pages s) pages_ordered
        ∙ rw (
          six (taken read 2),
          other_kind read s.signals 1 2 (λ e. omega arith),
          same_kind read s.variables _ f.variables 2,
          other_kind read s.processes 3 2 (λ e. omega arith),
          other_kind read s.drivers 4 2 (λ e. omega arith),
          other_kind read s.nodes 5 2 (λ e. omega arith),
          other_kind read s.statements 6 2 (λ e. omega arith),
          append-nil,
        )

    third_kind : records_of read 3 (packed s) ≡ records_in read s.processes
    unfolding packed
    third_kind =
        all_records read 3 (pages s) pages_ordered
        ∙ rw (
          six (taken read 3),
          other_kind read s.signals 1 3 (λ e. omega arith),
          other_kind read s.variables 2 3 (λ e. omega arith),
          same_kind read s.processes _ f.processes 3,
          other_kind read s.drivers 4 3 (λ e. omega arith),
          other_kind read s.nodes 5 3 (λ e. omega arith),
          other_kind read s.statements 6 3 (λ e. omega arith),
          append-nil,
        )

    fourth_kind : records_of read 4 (packed s) ≡ records_in read s.drivers
    unfolding packed
    fourth_kind =
        all_records read 4 (pages s) pages_ordered
        ∙ rw (
          six (taken read 4),
          other_kind read s.signals 1 4 (λ e. omega arith),
          other_kind read s.variables 2 4 (λ e. omega arith),
          other_kind read s.processes 3 4 (λ e. omega arith),
          same_kind read s.drivers _ f.drivers 4,
          other_kind read s.nodes 5 4 (λ e. omega arith),
          other_kind read s.statements 6 4 (λ e. omega arith),
          append-nil,
        )

    fifth_kind : records_of read 5 (packed s) ≡ records_in read s.nodes
    unfolding packed
    fifth_kind =
        all_records read 5 (pages s) pages_ordered
        ∙ rw (
          six (taken read 5),
          other_kind read s.signals 1 5 (λ e. omega arith),
          other_kind read s.variables 2 5 (λ e. omega arith),
          other_kind read s.processes 3 5 (λ e. omega arith),
          other_kind read s.drivers 4 5 (λ e. omega arith),
          same_kind read s.nodes _ f.nodes 5,
          other_kind read s.statements 6 5 (λ e. omega arith),
          append-nil,
        )

    sixth_kind : records_of read 6 (packed s) ≡ records_in read s.statements
    unfolding packed
    sixth_kind =
        all_records read 6 (pages s) pages_ordered
        ∙ rw (
          six (taken read 6),
          other_kind read s.signals 1 6 (λ e. omega arith),
          other_kind read s.variables 2 6 (λ e. omega arith),
          other_kind read s.processes 3 6 (λ e. omega arith),
          other_kind read s.drivers 4 6 (λ e. omega arith),
          other_kind read s.nodes 5 6 (λ e. omega arith),
          same_kind read s.statements _ f.statements 6,
        )

    no_kind : records_of read 7 (packed s) ≡ []
    unfolding packed
    no_kind =
        all_records read 7 (pages s) pages_ordered
        ∙ rw (
          six (taken read 7),
          other_kind read s.signals 1 7 (λ e. omega arith),
          other_kind read s.variables 2 7 (λ e. omega arith),
          other_kind read s.processes 3 7 (λ e. omega arith),
          other_kind read s.drivers 4 7 (λ e. omega arith),
          other_kind read s.nodes 5 7 (λ e. omega arith),
          other_kind read s.statements 6 7 (λ e. omega arith),
        )

  -- the model that the blocks hold is that of the parts
  pub model_packed : model_of (packed s) ≡ model_in s
  unfolding model_of model_in
  model_packed = rw (first_kind signal_of, second_kind variable_of, third_kind process_of, fourth_kind driver_of, fifth_kind node_of, sixth_kind statement_of, no_kind row_of)
