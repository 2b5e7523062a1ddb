use Rattle.std.proofs.Common.{◌≡◌, Some, sym, ◌∙◌}
use Rattle.ip_datagram.proofs.Fronts.{IsFront-front_length, front_length-from_front}
use Rattle.ip_datagram.proofs.laws.a_front_is_one_datagram.Goals as goal

pub returns-clause-front : goal.returns-clause-front
returns-clause-front c = λ b n. (IsFront-front_length b n, front_length-from_front b n)

pub returns-clause-one : goal.returns-clause-one
returns-clause-one c = λ b m n f g. let e : Some m ≡ Some n = sym (front_length-from_front b m f) ∙ front_length-from_front b n g in cc
