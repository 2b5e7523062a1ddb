use Rattle.reception_law.proofs.Sums.{delivered_counted, told_counted}
use Rattle.reception_law.proofs.numbers.all_datagrams_are_counted.Goals as goal

pub returns : goal.returns
returns c = record { delivered = delivered_counted; told = told_counted }
