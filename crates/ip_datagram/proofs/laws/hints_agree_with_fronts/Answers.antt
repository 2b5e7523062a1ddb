use Rattle.ip_datagram.proofs.Hints.{hint_of-append}
use Rattle.ip_datagram.proofs.HintFronts.{whole_front, cut_front, padded_front, bad_front, told_front}
use Rattle.ip_datagram.proofs.laws.hints_agree_with_fronts.Goals as goal

pub returns-clause-stays : goal.returns-clause-stays
returns-clause-stays c = hint_of-append

pub returns-clause-whole : goal.returns-clause-whole
returns-clause-whole c = whole_front

pub returns-clause-cut : goal.returns-clause-cut
returns-clause-cut c = cut_front

pub returns-clause-padding : goal.returns-clause-padding
returns-clause-padding c = padded_front

pub returns-clause-bad : goal.returns-clause-bad
returns-clause-bad c = bad_front

pub returns-clause-told : goal.returns-clause-told
returns-clause-told c = told_front
