-- What a sheet and an image both mean: a plain record in the middle between them.
use Rattle.std.specs.Prelude.{ℕ, List}

-- a block: its kind (type; 256 compact; 257 a 21041 block) and its body (an extended block without length and type, others
-- whole)
pub record Entry : Type 0 where
  pub kind : ℕ
  pub body : List ℕ

-- `id` are ID bytes 0 to 15, `last_id` is ID byte 17; the entries stand by block number
pub record Plain : Type 0 where
  pub id : List ℕ
  pub last_id : ℕ
  pub version : ℕ
  pub address : List ℕ
  pub device : ℕ
  pub chip : ℕ
  pub connection : ℕ
  pub control : ℕ
  pub maker : List ℕ
  pub entries : List Entry
