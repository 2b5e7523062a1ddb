use Rattle.ule_unit.proofs.Written.{is_sndu-sndu_bytes, sndu_fields-sndu_bytes, sndu_span-sndu_bytes}
use Rattle.ule_unit.proofs.laws.a_written_sndu_reads_back.Goals as goal

pub returns : goal.returns
returns c = record { sndu = is_sndu-sndu_bytes; read = sndu_fields-sndu_bytes; span = sndu_span-sndu_bytes }
