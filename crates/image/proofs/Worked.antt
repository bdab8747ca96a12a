-- The headers compute. Assumes nothing.
use mathlib.Core.Path.{refl}
use Rattle.image.specs.Cases.{header_answered, header_cases}
use Rattle.image.specs.Claims.{HeadersWorked}
use Rattle.image.proofs.Computes.{header-computes}

pub headers-worked : HeadersWorked
unfolding header-computes header_answered header_cases
headers-worked = refl
