-- What stands before a block's body, and the body behind it. Assumes nothing.
use Rattle.std.proofs.Common.{ℕ, ◌+◌, ◌≡◌, ◌≤◌, ◌<◌, ◌∙◌, sym, ap, false, List, [], ◌∷◌, length, arith}
use Rattle.std.proofs.lemmas.List.{nil_from_length}
use Rattle.std.proofs.Math.ListN.{set, length-append}
use Rattle.rom.specs.Store.{put, laid}
use Rattle.rom.proofs.Put.{put-none, put_two, put-put, put-length, laid-put}
use Rattle.sheet.specs.Record.{Entry}
use Rattle.sheet.specs.Image.{opening_of, encode}
use Rattle.sheet.specs.Write.{is_bad}
use Rattle.sheet.proofs.Blocks.{Good, good-compact, good-21041, good-extended, good-so, opening-compact, opening-21041, opening-extended}
use Rattle.writer.specs.Inside.{Fits}

-- an extended block that images hold has a type of one byte and a length of seven bits
pub record ExtendedOpening (e : Entry) : Type 0 where
  pub kind : e.kind < 256
  pub body : length e.body ≤ 126
  pub opening : opening_of e ≡ (129 + length e.body) ∷ e.kind ∷ []

extended : (row : ℕ) (e : Entry) → is_bad row e ≡ false → (length (opening_of e) ≡ 0 → ⊥) → ExtendedOpening e
extended row e good h = go (good-so row e good)
  where
    first : 128 + (1 + length e.body) ≡ 129 + length e.body
    first = omega arith

    go : Good row e → ExtendedOpening e
    go (good-compact k c l b) = absurd (h (ap length (opening-compact e k)))
    go (good-21041 k c l) = absurd (h (ap length (opening-21041 e k)))
    go (good-extended k c l) =
        record { kind = k; body = l; opening = opening-extended e k ∙ ap (λ (n : ℕ). n ∷ e.kind ∷ []) first }

-- an opening as it is written
module _ {room : List ℕ} {to : ℕ} {e : Entry} (fit : Fits room to e (opening_of e)) {size : ℕ} (is : size ≡ length (opening_of e)) where
  pub no-opening : size ≡ 0 → room ≡ put room to (opening_of e)
  no-opening z = sym (put-none room to) ∙ ap (put room to) (sym (nil_from_length (opening_of e) (sym is ∙ z)))

  module _ (h : size ≡ 0 → ⊥) where
    pub its_opening : ExtendedOpening e
    its_opening = extended fit.row e fit.good (λ z. h (is ∙ z))

    pub opening_room : to + 2 ≤ length room
    opening_room = omega (arith, ap length its_opening.opening, fit.fits)

    pub opening-put : set (set room to (129 + length e.body)) (to + 1) e.kind ≡ put room to (opening_of e)
    opening-put = put_two room to (129 + length e.body) e.kind opening_room ∙ ap (put room to) (sym its_opening.opening)

-- an entry: its opening stands, and its body is put behind it
pub entry-put : {room one two : List ℕ} {to at : ℕ} {e : Entry} → Fits room to e (encode e) → at ≡ to + length (opening_of e)
    → one ≡ put room to (opening_of e) → two ≡ laid one at e.body → two ≡ put room to (encode e)
entry-put {room} {one} {two} {to} {at} {e} fit ea e₁ e₂ =
    let l = length-append (opening_of e) e.body in
    let long : length one ≡ length room = ap length e₁ ∙ put-length room to (opening_of e) (omega (arith, fit.fits, l)) in
    e₂ ∙ laid-put one at e.body (omega (arith, fit.fits, l, long))
    ∙ rw (e₁, ea) (put-put room to (opening_of e) e.body (omega (arith, fit.fits, l)))
