use Rattle.section_codec.proofs.Written.{is_section-section_bytes, unit-section_bytes, section_span-section_bytes}
use Rattle.section_codec.proofs.laws.a_written_section_reads_back.Goals as goal

pub returns-clause-section : goal.returns-clause-section
returns-clause-section c = is_section-section_bytes

pub returns-clause-unit : goal.returns-clause-unit
returns-clause-unit c = unit-section_bytes

pub returns-clause-span : goal.returns-clause-span
returns-clause-span c = section_span-section_bytes
