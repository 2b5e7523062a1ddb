use Rattle.gse_reception.proofs.OtherFrames.{nothing_added, taken_stays}
use Rattle.gse_reception.proofs.laws.a_frame_of_another_isi_changes_nothing.Goals as goal

pub returns-clause-service : goal.returns-clause-service
returns-clause-service c = λ it isi state frames b is other taken. taken_stays isi frames b other it state is taken

pub returns-clause-delivered : goal.returns-clause-delivered
returns-clause-delivered c = λ it isi frames b is other. nothing_added isi frames b other it is
