-- What is answered of a refused header and of the leaf that an accepted one names, in the code's terms. Assumes nothing.
use Prim.Native.Nat.{ℕ, ◌≤◌, ◌<◌}
use mathlib.Core.List.{List}
use mathlib.Core.Path.{◌≡◌, ap, sym, ◌∙◌}
use mathlib.Core.Bool.{Bool, true, false}
use borrow.Author.Tests.{ne_eqb, lt-ltb, le-ltb}
use Rattle.rom.specs.Geometry.{none}
use Rattle.rom.specs.Bytes.{pick}
use Rattle.rom.specs.Refusal.{first_met}
use Rattle.image.specs.declared.Arguments.{Arguments}
use Rattle.header.specs.Header.{HeaderAnswer}
use Rattle.image.specs.Image.{is_first_version, up_to_leaves_end}
use Rattle.image.specs.Arguments.{row_for, start_for, count_for, header_causes}
use Rattle.header.specs.Header.{found_header, header_for}
use Rattle.header.proofs.Headers.{read_number, no-refusal, read_found, read_count}
use Rattle.leaf.specs.Leaf.{cut, first_from, place_by_stepping}
use Rattle.leaf.proofs.Stepping.{placed-stepping}
use Rattle.survey.specs.Survey.{has_leaf, has_block, no_place, place_at, place_for, is_refused, refused_for}

module _ (image : List ℕ) (a : Arguments) (h : HeaderAnswer) (eh : h ≡ header_for image a) where
  -- ## A refused header

  module _ (n : h.number ≡ 0 → ⊥) where
    no-leaf : has_leaf image a ≡ false
    no-leaf = ne_eqb (first_met (header_causes image a)) 0 (λ e. n (read_number image a h eh ∙ e))

    pub no-leaf-place : (k : ℕ) → no_place ≡ place_for image a k
    unfolding place_for pick
    no-leaf-place k = simp no-leaf

    pub no-leaf-block : (k : ℕ) → false ≡ has_block image a k
    no-leaf-block k = simp no-leaf

    pub no-leaf-refused : none ≡ refused_for image a
    unfolding refused_for pick
    no-leaf-refused = simp no-leaf

  -- ## An accepted one

  module _ (z : h.number ≡ 0) where
    accepted : first_met (header_causes image a) ≡ 0
    accepted = no-refusal image a h eh z

    found : h ≡ found_header image a
    found = read_found image a h eh z

    count : h.blocks ≡ count_for image a
    count = read_count image a h eh z

    pub no-block-place : (k : ℕ) → h.blocks ≤ k → no_place ≡ place_for image a k
    unfolding place_for pick
    no-block-place k l = simp (accepted, le-ltb k (count_for image a) (rw count at l))

    pub no-block-there : (k : ℕ) → h.blocks ≤ k → false ≡ has_block image a k
    no-block-there k l = simp (accepted, le-ltb k (count_for image a) (rw count at l))

    pub block-there : (k : ℕ) → k < h.blocks → true ≡ has_block image a k
    block-there k l = simp (accepted, lt-ltb k (count_for image a) (rw count at l))

    pub block-stands : (rest : List ℕ) → rest ≡ up_to_leaves_end a.layout image h.start → (k : ℕ) → k < h.blocks
        → place_at h.row (place_by_stepping h.row h.start k rest) ≡ place_for image a k
    unfolding place_for found_header pick
    block-stands rest e k l =
        let s = up_to_leaves_end a.layout image (start_for image a) in
        let placed = placed-stepping (row_for a) (start_for image a) (count_for image a) k s _ (rw count at l) in
        simp (accepted, lt-ltb k (count_for image a) (rw count at l)) (rw (e, found) (ap (place_at (row_for a)) (sym placed)))

    pub leaf-refused : (rest : List ℕ) → rest ≡ up_to_leaves_end a.layout image h.start → {first : Bool} → first ≡ is_first_version image
        → first_from (is_refused first h.row a.level) 0 (cut h.row h.blocks rest) ≡ refused_for image a
    unfolding refused_for found_header pick
    leaf-refused rest e ef = rw (e, ef, found, accepted)
