-- Neither CRC covers its own bytes, and the ID CRC covers the front only. Assumes nothing.
use Prim.Native.Nat.{ℕ, ◌≤◌}
use mathlib.Core.Path.{◌≡◌, refl, sym, ap, ◌∙◌}
use mathlib.Core.List.{List, ◌++◌}
use native.Mathlib.Omega.{arith}
use lib.ListN.{length, take}
use lib.Seq.{take-take, take-append-le}
use Rattle.rom.specs.declared.Layout.{Layout}
use Rattle.rom.specs.Geometry.{checked_length}
use Rattle.rom.specs.Bytes.{word_at}
use Rattle.rom.specs.Store.{word_bytes}
use Rattle.checksum.specs.Crc.{srom_crc, crc8_words, word, crc8, id_crc}
use Rattle.sheet.specs.Record.{Plain}
use Rattle.sheet.specs.Image.{front_with}
use Rattle.rom.proofs.Lists.{spell}
use Rattle.sheet.proofs.Sheets.{SizedFields, spelled_out, spelled_out_lem}

pub srom-covered : (l : Layout) (s : List ℕ) → srom_crc l (take (checked_length l) s) ≡ srom_crc l s
unfolding srom_crc
srom-covered l s = rw (take-take (checked_length l) (checked_length l) s (omega arith)) refl

pub srom-front : (l : Layout) (s r : List ℕ) → checked_length l ≤ length s → srom_crc l (s ++ r) ≡ srom_crc l s
unfolding srom_crc
srom-front l s r h = rw (take-append-le (checked_length l) s r h) refl

spelled-id : (p : Plain) (c : ℕ) (r : List ℕ) → id_crc (front_with c (spelled_out p) ++ r) ≡ id_crc (front_with 0 (spelled_out p))
unfolding id_crc crc8 crc8_words word word_at front_with spelled_out spell word_bytes
spelled-id p c r = refl

-- whatever stands at byte 16 and behind the front
pub id-front : (p : Plain) (c : ℕ) (r : List ℕ) → SizedFields p → id_crc (front_with c p ++ r) ≡ id_crc (front_with 0 p)
id-front p c r z =
    let e = spelled_out_lem p z in
    ap (λ (x : Plain). id_crc (front_with c x ++ r)) e ∙ spelled-id p c r ∙ ap (λ (x : Plain). id_crc (front_with 0 x)) (sym e)
