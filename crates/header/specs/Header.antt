-- What the code keeps of the header of the leaf that the arguments name (document 01, 'The image').
use Rattle.std.specs.Prelude.{ℕ, List, eqb, Result, Ok, Err}
use Rattle.rom.specs.Bytes.{pick, word_at}
use Rattle.rom.specs.declared.refusal.Refusal.{Refusal}
use Rattle.rom.specs.Refusal.{first_met}
use Rattle.rom.specs.Numbers.{refusal_number}
use Rattle.image.specs.declared.Arguments.{Arguments}
use Rattle.image.specs.Image.{address_of, control_byte}
use Rattle.image.specs.Arguments.{row_for, leaf_for, start_for, count_for, header_causes}
use Rattle.header.specs.declared.Header.{Header}

-- what reading a header answers: what it says, or a refusal's number and zeros
pub record HeaderAnswer : Type 0 where
  pub number : ℕ
  pub row : ℕ
  pub start : ℕ
  pub connection : ℕ
  pub control : ℕ
  pub address : ℕ
  pub blocks : ℕ

unfoldable pub no_header : ℕ → HeaderAnswer
no_header n = record { number = n; row = 0; start = 0; connection = 0; control = 0; address = 0; blocks = 0 }

unfoldable pub found_header : List ℕ → Arguments → HeaderAnswer
found_header image a = record {
  number = 0;
  row = row_for a;
  start = start_for image a;
  connection = word_at image (leaf_for image a);
  control = control_byte image (row_for a) (leaf_for image a);
  address = address_of image a.controller;
  blocks = count_for image a;
}

unfoldable pub header_for : List ℕ → Arguments → HeaderAnswer
header_for image a = pick (eqb (first_met (header_causes image a)) 0) (found_header image a) (no_header (first_met (header_causes image a)))

-- what the code's result answers
abbrev pub header_read : Header → HeaderAnswer
header_read h = record {
  number = 0;
  row = h.row;
  start = h.start;
  connection = h.connection;
  control = h.control;
  address = h.address;
  blocks = h.blocks;
}

abbrev pub header_answer : Result Header Refusal → HeaderAnswer
header_answer (Ok h) = header_read h
header_answer (Err r) = no_header (refusal_number r)
