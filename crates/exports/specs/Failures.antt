-- Why a call is not done, and the number that it then answers.
use Rattle.std.specs.Prelude.{ℕ, Ok, Err, Result}
use Rattle.register.specs.Refusals as register
use Rattle.text.specs.Refusals as text
use Rattle.exports.specs.Numbers.{done, no_kind, short_slice, no_memory}
use Rattle.exports.specs.declared.answer.Failure.{Failure}
use Rattle.exports.specs.declared.answer.Failure.TheVariants.{NoMemory, NoKind, ShortSlice, Line, Call}

-- the number that tells why a call is not done: that of the refusal, or one above those
abbrev pub number_of : Failure → ℕ
number_of NoMemory = no_memory
number_of NoKind = no_kind
number_of ShortSlice = short_slice
number_of (Line line) = (text.code line.refusal).number
number_of (Call why) = (register.code why).number

-- the number by which a call answers that gives nothing else
abbrev pub answered : Result (Unit {0}) Failure → ℕ
answered (Ok u) = done
answered (Err e) = number_of e
