-- The definitions of one block, opened together for what computes: `unfolding block-computes`.
use Rattle.rom.specs.Bytes.{pick, word_at, bit, is_in}
use Rattle.rom.specs.Refusal.{first_met}
use Rattle.format.specs.Chips.{chips, place_of, row_of, permitted_rows, is_permitted, sia_codes, port_codes, sym_codes, never_default}
use Rattle.format.specs.Block.{is_extended, length_of, sia_size, size_of, kind_of, is_known, g_count, r_count, capabilities_at, length_for}
use Rattle.format.specs.Block.{is_wrong, bad_sia_code, bad_plain_code, bad_command, counts_as_default, exceeds, sia, port, symbol, phy}
use Rattle.format.specs.Block.{sequence, facts_of, is_listed, is_power, is_default, resets_a_phy, causes, refusal_of}

unfoldable pub block-computes : Unit {0}
unfolding pick word_at bit is_in first_met
    chips place_of row_of permitted_rows is_permitted sia_codes port_codes sym_codes never_default
    is_extended length_of sia_size size_of kind_of is_known g_count r_count capabilities_at length_for is_wrong bad_sia_code bad_plain_code
    bad_command
    counts_as_default exceeds sia port symbol phy sequence facts_of is_listed is_power is_default resets_a_phy causes refusal_of
block-computes = tt
