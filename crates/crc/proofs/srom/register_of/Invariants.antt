-- The register has the next byte XORed in already; what is left to feed is the rest of the bytes. Assumes nothing.
use Rattle.std.proofs.Common.{◌≡◌, drop}
use Rattle.checksum.specs.Crc.{ones}
use Rattle.crc.specs.Inside.{reflected, turns, bytes_in}
use Rattle.crc.proofs.srom.register_of.Given as goal

abbrev pub invariant-loop-next : goal.invariant-loop-next
invariant-loop-next l =
    bytes_in reflected (turns reflected 8 l.mixed) (drop l.next-index l.rest) ≡ bytes_in reflected (ones 32) l.bytes
