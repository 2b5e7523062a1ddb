use Rattle.std.proofs.Common.{ℕ, ◌-◌, List, [], ◌∷◌, take, drop, length, sym, subst, None}
use Rattle.std.proofs.lemmas.List.{take_rest}
use Rattle.ts_packet.specs.Fields.{fields_in}
use Rattle.unit_stream.specs.Joining.{drained}
use Rattle.unit_stream.specs.States.{place_of}
use Rattle.unit_stream.specs.Steps.{Reads}
use Rattle.unit_stream.proofs.Buffers.{copy_is}
use Rattle.unit_stream.proofs.Started.{reads_nothing, reads_bad, reads_within, reads_beyond}
use Rattle.unit_stream.proofs.reading.read_start.Goals as goal

-- the bytes from a place of the payload on
abbrev from_place : List ℕ → ℕ → List ℕ
from_place payload at = take (length payload - at) (drop at payload)

pub returns-in-Nothing-clause-read : goal.returns-in-Nothing-clause-read
returns-in-Nothing-clause-read g c =
    reads_nothing g.F.UnitForm.form g.met.F.UnitForm.lawful (fields_in c.args.packet.now) (place_of c.args.position)
    (from_place c.args.packet.now.payload.now c.args.position.at) (take_rest c.args.packet.now.payload.now c.args.position.at)
    c.in-Nothing.ensures.told

pub returns-in-Bad-clause-read : goal.returns-in-Bad-clause-read
returns-in-Bad-clause-read g c =
    reads_bad g.F.UnitForm.form g.met.F.UnitForm.lawful (fields_in c.args.packet.now) (place_of c.args.position)
    (from_place c.args.packet.now.payload.now c.args.position.at) (take_rest c.args.packet.now.payload.now c.args.position.at)
    c.in-Bad.ensures.told.0 c.in-Bad.ensures.told.1

pub returns-in-Within-clause-read : goal.returns-in-Within-clause-read
returns-in-Within-clause-read g c =
    rw c.checked.ensures (
    reads_within g.F.UnitForm.form g.met.F.UnitForm.lawful (fields_in c.args.packet.now) (place_of c.args.position)
    (from_place c.args.packet.now.payload.now c.args.position.at) (take_rest c.args.packet.now.payload.now c.args.position.at)
    c.in-Within.size c.in-Within.ensures.told.0 c.in-Within.ensures.told.1 c.in-Within.ensures.told.2)

pub returns-in-Beyond-clause-read : goal.returns-in-Beyond-clause-read
returns-in-Beyond-clause-read g c =
    let P : List ℕ → Type 0 = λ bytes. Reads g.F.UnitForm.form (fields_in c.args.packet.now) (place_of c.args.position) None (drained (record { moment = c.args.position.moment; bytes = bytes } ∷ [])) in
    subst P
    (sym (copy_is c.copy_from_slice.new.self (from_place c.args.packet.now.payload.now c.args.position.at)
    (drop (length (from_place c.args.packet.now.payload.now c.args.position.at)) c.args.buffer.now) c.copy_from_slice.ensures.after))
    (reads_beyond g.F.UnitForm.form g.met.F.UnitForm.lawful (fields_in c.args.packet.now) (place_of c.args.position)
    (from_place c.args.packet.now.payload.now c.args.position.at) (take_rest c.args.packet.now.payload.now c.args.position.at)
    c.in-Beyond.ensures.told.0 c.in-Beyond.ensures.told.1 c.in-Beyond.ensures.told.2)
