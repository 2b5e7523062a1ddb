use Rattle.gse_reassembly.proofs.Steps.{all_closed}
use Rattle.gse_reassembly.proofs.slots.Slots.over.Goals as goal

pub returns-clause-stands : goal.returns-clause-stands
returns-clause-stands g c = λ id. all_closed c.fill.new.self.items c.args.buffer.items c.args.slots.len c.new.result (c.fill.ensures.items (λ y same. same)) c.new.ensures.empty id
