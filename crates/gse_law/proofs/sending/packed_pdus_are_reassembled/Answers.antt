use Rattle.gse_law.proofs.PackedFrames.{ends_in_classes, one_class_in_order}
use Rattle.gse_law.proofs.sending.packed_pdus_are_reassembled.Goals as goal

pub returns : goal.returns
returns c = record { classes = ends_in_classes; in_order = one_class_in_order }
