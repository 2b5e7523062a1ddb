use Rattle.bb_demux.proofs.services.open_receiver.Goals as goal

pub over-requires : goal.over-requires
over-requires c = record { room = c.in_ok-buffer.ensures.size; slots = c.in_ok-slots.ensures.size }

pub returns : goal.returns
returns c = record { opened = λ it is. record { isi_is = is; taken = c.over.ensures.received it c.args.isi is } }
