-- The cases compute, each by its number. Assumes nothing.
use mathlib.Core.Path.{refl, ◌∙◌}
use Rattle.checksum.specs.Crc.{id_crc}
use Rattle.leaf.specs.Cases as leaves
use Rattle.sheet.specs.Image.{newest_in}
use Rattle.worked.specs.Cases.{image_cases, magic_image_cases, power_image_cases, repeated_image_cases, older_cases, fixed_image_cases}
use Rattle.worked.specs.Cases.{order_cases}
use Rattle.worked.specs.Claims.{ImagesWorked, MagicImagesWorked, PowerImagesWorked, RepeatedWorked, OlderWorked, FixedImagesWorked}
use Rattle.worked.specs.Claims.{OrderWorked}
use Rattle.worked.proofs.Computes.{walk-computes}
use Rattle.worked.proofs.Once.{all_once, all-ordered-once}

pub images-worked : ImagesWorked
unfolding walk-computes leaves.paper_cases image_cases
images-worked = all_once image_cases ∙ refl

pub magic-images-worked : MagicImagesWorked
unfolding walk-computes leaves.paper_cases magic_image_cases
magic-images-worked = all_once magic_image_cases ∙ refl

pub power-images-worked : PowerImagesWorked
unfolding walk-computes power_image_cases
power-images-worked = all_once power_image_cases ∙ refl

pub repeated-worked : RepeatedWorked
unfolding walk-computes repeated_image_cases
repeated-worked = all_once repeated_image_cases ∙ refl

pub older-worked : OlderWorked
unfolding walk-computes older_cases
older-worked = all_once older_cases ∙ refl

pub fixed-images-worked : FixedImagesWorked
unfolding walk-computes fixed_image_cases
fixed-images-worked = all_once fixed_image_cases ∙ refl

pub order-worked : OrderWorked
unfolding walk-computes id_crc newest_in order_cases
order-worked = all-ordered-once order_cases ∙ refl
