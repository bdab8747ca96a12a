-- Two walks of one leaf, newest and older, that differ at most in the flags of removed blocks.
use Rattle.std.specs.Prelude.{ℕ, ◌≡◌, Bool, false}
use Rattle.walk.specs.declared.Walk.{Walk}
use Rattle.walk.specs.declared.Way.{Way}
use Rattle.walk.specs.declared.Way.TheVariants.{EveryLook, Once, Fixed}
use Rattle.walk.specs.Walk.{flag_at, fixed_block}

-- the same leaf, with the same flags but for removed blocks
pub record Alike (removed : ℕ → Bool) (new old : Walk) : Type 0 where
  pub connection : old.connection ≡ new.connection
  pub blocks : old.blocks ≡ new.blocks
  pub listed : (k : ℕ) → removed k ≡ false → flag_at old.rows.listed k ≡ flag_at new.rows.listed k
  pub invalid : (k : ℕ) → removed k ≡ false → flag_at old.rows.active_invalid k ≡ flag_at new.rows.active_invalid k
  pub fixed : (k : ℕ) → removed k ≡ false → flag_at old.rows.fixed k ≡ flag_at new.rows.fixed k
  -- the older has the fixed medium at no block where the newest has not
  pub fewer : (k : ℕ) → flag_at new.rows.fixed k ≡ false → flag_at old.rows.fixed k ≡ false

-- the same default, which is not removed
pub record DefaultKept (removed : ℕ → Bool) (new old : Walk) : Type 0 where
  pub same : old.default_number ≡ new.default_number
  pub kept : removed new.default_number ≡ false

-- what is kept by the way to walk: under a fixed type the newest choice is not removed, or there is none
abbrev pub Kept : Way → (ℕ → Bool) → Walk → Walk → Type 0
Kept EveryLook removed new old = DefaultKept removed new old
Kept Once removed new old = DefaultKept removed new old
Kept Fixed removed new old = removed (fixed_block new) ≡ false

-- the same state
pub record SameState (new old : Walk) : Type 0 where
  pub loaded : old.loaded ≡ new.loaded
  pub settled : old.settled ≡ new.settled
  pub selected : old.selected ≡ new.selected
  pub looks : old.looks ≡ new.looks
  pub switches : old.switches ≡ new.switches

-- walks that stand alike, on no removed block
pub record StandAlike (removed : ℕ → Bool) (new old : Walk) : Type 0 where
  pub alike : Alike removed new old
  pub state : SameState new old
  pub kept : removed new.selected ≡ false
