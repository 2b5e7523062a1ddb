use Rattle.std.proofs.Common.{subst}
use Rattle.demux_core.specs.Services.{ReadsKind}
use Rattle.demux_core.specs.declared.service.ByKind.{ByKind}
use Rattle.demux_core.proofs.KindWords.{fresh_again}
use Rattle.demux_core.proofs.service.ByKind.begin_anew.Goals as goal

pub returns-in-Fec : goal.returns-in-Fec
returns-in-Fec c = record {
  fresh = λ form it reads.
      fresh_again form it c.in-Fec.reception.frames _ (subst (λ (b : ByKind). ReadsKind form b it.kind) c.in-Fec.is reads) c.begin_anew-in-Fec.ensures.received;
}
