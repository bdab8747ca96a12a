-- The header's causes, one after another, as the tests of the code find them, and what an accepted header says. Assumes nothing.
use Prim.Native.Nat.{ℕ, zero, suc, ◌+◌, ◌-◌, ◌≤◌, ◌<◌, min, max}
use native.Mathlib.Omega.{arith}
use mathlib.Core.List.{List, ◌++◌}
use mathlib.Core.Path.{◌≡◌, refl, ap, sym, ◌∙◌}
use mathlib.Core.Bool.{Bool, true, false, ◌||◌, not}
use lib.Dec.{eqb, leb, ltb, eqb-suc-zero}
use lib.ListN.{length, take, drop, length-drop, drop_of_length-le}
use lib.Seq.{take_all, take-nil, drop-length}
use borrow.Author.Tests.{eq-eqb, ne_eqb, le-leb, lt-leb, lt-ltb, le-ltb, eqb-true, eqb-false, leb-true, leb-false}
use Rattle.rom.specs.declared.Layout.{Layout}
use Rattle.rom.specs.Geometry.{wrong_length, leaves_end, most_controllers}
use Rattle.rom.specs.Bytes.{pick, byte_at, word_at, is_in}
use Rattle.rom.specs.Refusal.{first_met}
use Rattle.rom.proofs.First.{after-accepted, after-refused}
use Rattle.rom.proofs.Layouts.{geometry}
use Rattle.packet.specs.Answer.{magic_length_cause, magic_block_causes, magic_read_causes, magic_read_number}
use Rattle.format.specs.Chips.{chips, place_of, row_of}
use Rattle.format.proofs.Lists.{in_place}
use Rattle.image.specs.declared.Arguments.{Arguments}
use Rattle.image.specs.Image.{versions, controller_count, reserved_at, base_address, address_of, header_length, control_byte, blocks_at}
use Rattle.image.specs.Image.{block_count, bad_count, magic_causes, image_causes, argument_causes, leaf_header_causes}
use Rattle.image.specs.Arguments.{row_for, edition_for, leaf_for, count_for, header_causes}
use Rattle.image.proofs.Causes.{image-numbered, argument-numbered, whole-image, start_fits}
use Rattle.header.specs.Header.{HeaderAnswer, no_header, found_header, header_for}

-- ## The image alone

module _ (version : ℕ) where
  pub version-first : version ≡ 1 → false ≡ not (is_in version versions)
  unfolding is_in versions
  version-first e = simp (eq-eqb 1 version (sym e))

  pub version-next : (version ≡ 1 → ⊥) → version ≡ 3 → false ≡ not (is_in version versions)
  unfolding is_in versions
  version-next n e = simp (ne_eqb 1 version (λ e. n (sym e)), eq-eqb 3 version (sym e))

  pub version-last : (version ≡ 1 → ⊥) → (version ≡ 3 → ⊥) → not (eqb version 4) ≡ not (is_in version versions)
  unfolding is_in versions
  version-last m n = simp (ne_eqb 1 version (λ e. m (sym e)), ne_eqb 3 version (λ e. n (sym e))) (ap not (go (eqb version 4) refl))
    where
      go : (t : Bool) → eqb version 4 ≡ t → t ≡ (eqb 4 version || false)
      go true e = simp (eq-eqb 4 version (sym (eqb-true version 4 e)))
      go false e = simp (ne_eqb 4 version (λ f. eqb-false version 4 e (sym f)))

module _ (l : Layout) (image : List ℕ) where
  pub count-zero : controller_count image ≡ 0 → true ≡ bad_count l image
  unfolding bad_count
  count-zero e = simp (eq-eqb (controller_count image) 0 e)

  pub count-more : (controller_count image ≡ 0 → ⊥) → most_controllers l < controller_count image → true ≡ bad_count l image
  unfolding bad_count
  count-more n h = simp (ne_eqb (controller_count image) 0 n, lt-ltb (most_controllers l) (controller_count image) h)

  pub count-fine : (controller_count image ≡ 0 → ⊥) → controller_count image ≤ most_controllers l
      → not (eqb (byte_at image (reserved_at image)) 0) ≡ bad_count l image
  unfolding bad_count
  count-fine n h = simp (ne_eqb (controller_count image) 0 n, le-ltb (most_controllers l) (controller_count image) h)

  pub magic_judged : wrong_length l.size (length image) ≡ false → l.magic ≡ true
      → magic_read_number l.size image ≡ first_met (magic_causes l image)
  unfolding magic_causes first_met pick magic_read_number magic_read_causes magic_block_causes magic_length_cause
  magic_judged h e = rw (e, h)

  pub magic_untold : l.magic ≡ false → 0 ≡ first_met (magic_causes l image)
  unfolding magic_causes first_met pick
  magic_untold e = rw e

-- ## The arguments

-- a chip is none of those that have a row, or one of them
module _ (chip : ℕ) where
  pub no-chip : 5 ≤ row_of chip → not (is_in chip chips) ≡ true
  unfolding row_of chips
  no-chip h = rw (← in_place chip chips) (simp (le-ltb (place_of chip chips) 5 h))

  pub a-chip : row_of chip < 5 → not (is_in chip chips) ≡ false
  unfolding row_of chips
  a-chip h = rw (← in_place chip chips) (simp (lt-ltb (place_of chip chips) 5 h))

pub ruleset chip_tests = (no-chip, a-chip)

-- ## The leaf's header

module _ (end leaf reserved row : ℕ) where
  pub too-early : leaf ≤ reserved → (leb leaf reserved || ltb end (blocks_at row leaf)) ≡ true
  too-early h = simp (le-leb leaf reserved h)

  pub too-late : reserved < leaf → end < blocks_at row leaf → (leb leaf reserved || ltb end (blocks_at row leaf)) ≡ true
  too-late h g = simp (lt-leb leaf reserved h, lt-ltb end (blocks_at row leaf) g)

  pub in_bounds : reserved < leaf → blocks_at row leaf ≤ end → (leb leaf reserved || ltb end (blocks_at row leaf)) ≡ false
  in_bounds h g = simp (lt-leb leaf reserved h, le-ltb end (blocks_at row leaf) g)

-- ## The image up to where leaves end, whichever ends first

module _ (s : List ℕ) (end start : ℕ) where
  rest-past : length s < start → take (length s - length s) (drop (length s) s) ≡ take (end - start) (drop start s)
  rest-past h =
      rw (drop-length s, drop_of_length-le s {i = start} (omega arith)) (take-nil (length s - length s) ∙ sym (take-nil (end - start)))

  rest-cut : start ≤ length s → length s < end → take (length s - start) (drop start s) ≡ take (end - start) (drop start s)
  rest-cut h g =
      take_all (length s - start) (drop start s) (simp length-drop (omega arith))
      ∙ sym (take_all (end - start) (drop start s) (simp length-drop (omega arith)))

  pub rest-clamped : {first last : ℕ} → first ≡ min start (length s) → last ≡ max first (min end (length s))
      → take (last - first) (drop first s) ≡ take (end - start) (drop start s)
  rest-clamped {first} {last} ef el = go (leb start (length s)) (leb end (length s)) refl refl
    where
      go : (t u : Bool) → leb start (length s) ≡ t → leb end (length s) ≡ u
          → take (last - first) (drop first s) ≡ take (end - start) (drop start s)
      go true true et eu =
          let h = leb-true start (length s) et in
          let g = leb-true end (length s) eu in
          let f : first ≡ start = omega arith in
          let e : last - first ≡ end - start = omega arith in
          rw (e, f)
      go true false et eu =
          let h = leb-true start (length s) et in
          let g = leb-false end (length s) eu in
          let f : first ≡ start = omega arith in
          let e : last - first ≡ length s - start = omega arith in
          rw (e, f) (rest-cut h g)
      go false u et eu =
          let h = leb-false start (length s) et in
          let f : first ≡ length s = omega arith in
          let e : last - first ≡ length s - length s = omega arith in
          rw (e, f) (rest-past h)

-- ## The whole header

module _ (image : List ℕ) (a : Arguments) where
  -- a refusal of the image, of the arguments or of the leaf's header is the header's; without any, the header is found
  refused-by : (n : ℕ) → (n ≡ 0 → ⊥) → first_met (header_causes image a) ≡ n → no_header n ≡ header_for image a
  unfolding header_for pick
  refused-by n h e = rw e (simp (ne_eqb n 0 h))

  pub by-image : (n : ℕ) → (n ≡ 0 → ⊥) → n ≡ first_met (image_causes a.layout image) → no_header n ≡ header_for image a
  unfolding header_causes
  by-image n h e = refused-by n h (after-refused (image_causes a.layout image) _ n h (sym e))

  module _ (i : 0 ≡ first_met (image_causes a.layout image)) where
    past-image : first_met (header_causes image a)
        ≡ first_met (argument_causes image a ++ leaf_header_causes a.layout image (edition_for image a) (row_for a) (leaf_for image a))
    unfolding header_causes
    past-image = after-accepted (image_causes a.layout image) _ (image-numbered a.layout image) (sym i)

    pub by-arguments : (n : ℕ) → (n ≡ 0 → ⊥) → n ≡ first_met (argument_causes image a) → no_header n ≡ header_for image a
    by-arguments n h e = refused-by n h (past-image ∙ after-refused (argument_causes image a) _ n h (sym e))

    module _ (g : 0 ≡ first_met (argument_causes image a)) where
      past-arguments : first_met (header_causes image a)
          ≡ first_met (leaf_header_causes a.layout image (edition_for image a) (row_for a) (leaf_for image a))
      past-arguments = past-image ∙ after-accepted (argument_causes image a) _ (argument-numbered image a) (sym g)

      pub by-leaf : (n : ℕ) → (n ≡ 0 → ⊥)
          → n ≡ first_met (leaf_header_causes a.layout image (edition_for image a) (row_for a) (leaf_for image a))
          → no_header n ≡ header_for image a
      by-leaf n h e = refused-by n h (past-arguments ∙ sym e)

      pub header-found : 0 ≡ first_met (leaf_header_causes a.layout image (edition_for image a) (row_for a) (leaf_for image a))
          → found_header image a ≡ header_for image a
      unfolding header_for pick
      header-found e = rw (past-arguments ∙ sym e)

-- the causes of the leaf's header, as they are read
pub leaf-met : (image : List ℕ) (a : Arguments) {n row leaf : ℕ} {edition : Bool}
    → row ≡ row_for a → leaf ≡ leaf_for image a → edition ≡ edition_for image a
    → n ≡ first_met (leaf_header_causes a.layout image edition row leaf)
    → n ≡ first_met (leaf_header_causes a.layout image (edition_for image a) (row_for a) (leaf_for image a))
leaf-met image a er el ee e = rw (er, el, ee) at e

-- the fields, as they are read
pub fields_read : (image : List ℕ) (a : Arguments) (row leaf header connection control base blocks : ℕ)
    → row ≡ row_for a → leaf ≡ leaf_for image a → header ≡ header_length row → connection ≡ word_at image leaf
    → control ≡ control_byte image row leaf → base ≡ base_address image → blocks ≡ byte_at image (leaf + header - 1)
    → record {
      number = 0;
      row = row;
      start = leaf + header;
      connection = connection;
      control = control;
      address = base + a.controller;
      blocks = blocks;
    } ≡ found_header image a
unfolding found_header blocks_at block_count address_of
fields_read image a row leaf header connection control base blocks er el eh ec eo eb en = rw (ec, eo, eb, en, eh, el, er)

-- ## An accepted header

module _ (image : List ℕ) (a : Arguments) where
  header-number : (header_for image a).number ≡ first_met (header_causes image a)
  unfolding header_for found_header no_header pick
  header-number = go (first_met (header_causes image a))
    where
      go : (n : ℕ) → (pick (eqb n 0) (found_header image a) (no_header n)).number ≡ n
      go zero = refl
      go (suc n) = rw (eqb-suc-zero n)

  header-accepted : first_met (header_causes image a) ≡ 0 → header_for image a ≡ found_header image a
  unfolding header_for pick
  header-accepted e = rw e

-- The header that the code has read.
module _ (image : List ℕ) (a : Arguments) (h : HeaderAnswer) (eh : h ≡ header_for image a) where
  pub read_number : h.number ≡ first_met (header_causes image a)
  read_number = rw eh (header-number image a)

  module _ (z : h.number ≡ 0) where
    pub no-refusal : first_met (header_causes image a) ≡ 0
    no-refusal = sym read_number ∙ z

    pub read_found : h ≡ found_header image a
    read_found = eh ∙ header-accepted image a no-refusal

    pub read_count : h.blocks ≡ count_for image a
    unfolding found_header
    read_count = rw read_found

    pub read-start : h.start ≤ leaves_end a.layout
    unfolding found_header
    read-start = rw read_found (start_fits image a no-refusal)

    pub read-end : leaves_end a.layout ≤ length image
    read-end = let g = geometry a.layout in omega (arith, whole-image image a no-refusal)
