-- Each arm has the name of its code. Assumes nothing.
use Rattle.std.proofs.Common.{refl, ap, sym, arith}
use Rattle.std.proofs.lemmas.List.{get_or_past}
use Rattle.text.specs.Quoted.{quoted}
use Rattle.report.specs.Words.{media_names, media_words}
use Rattle.report.proofs.words.medium_name.Goals as goal

pub returns-in-0 : goal.returns-in-0
unfolding media_words media_names
returns-in-0 c = rw c.in-0.is refl

pub returns-in-1 : goal.returns-in-1
unfolding media_words media_names
returns-in-1 c = rw c.in-1.is refl

pub returns-in-2 : goal.returns-in-2
unfolding media_words media_names
returns-in-2 c = rw c.in-2.is refl

pub returns-in-3 : goal.returns-in-3
unfolding media_words media_names
returns-in-3 c = rw c.in-3.is refl

pub returns-in-4 : goal.returns-in-4
unfolding media_words media_names
returns-in-4 c = rw c.in-4.is refl

pub returns-in-5 : goal.returns-in-5
unfolding media_words media_names
returns-in-5 c = rw c.in-5.is refl

pub returns-in-6 : goal.returns-in-6
unfolding media_words media_names
returns-in-6 c = rw c.in-6.is refl

pub returns-in-7 : goal.returns-in-7
unfolding media_words media_names
returns-in-7 c = rw c.in-7.is refl

pub returns-in-8 : goal.returns-in-8
unfolding media_words media_names
returns-in-8 c = rw c.in-8.is refl

pub returns-in_default : goal.returns-in_default
unfolding media_words media_names
returns-in_default c = ap quoted (sym (get_or_past media_names c.args.code "" (omega arith)))
