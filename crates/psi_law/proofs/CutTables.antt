-- The packets of the tables have one size, so they are those of their bytes; and what is read of an input that has these bytes.
use Rattle.std.proofs.Common.{◌≡◌, ℕ, suc, ◌<◌, true, List, [], ◌∷◌, ◌++◌, length, map, flat_map, All, Option, Some, None, ap, sym, ◌∙◌, arith}
use Rattle.std.specs.Io.KnownBytes.{Consumes, IsAtEnd}
use Rattle.std.proofs.lemmas.List.{append-nil}
use Rattle.std.proofs.lemmas.List.Elements.{All-nil, All-cons, All-append}
use Rattle.wire_spec.specs.Lists.{joined, IsCut}
use Rattle.ts_spec.specs.Packet.{PacketFields}
use Rattle.ts_spec.specs.Packetized.{packet_at}
use Rattle.section_spec.specs.Section.{section_form}
use Rattle.unit_stream.specs.Packing.{packetized}
use Rattle.unit_stream.specs.Packers.{written}
use Rattle.stream_law.proofs.Packets.{IsOn, packetized_on}
use Rattle.int_spec.specs.Table.{table_bytes}
use Rattle.plan_spec.specs.Plan.{IntFields, PlanFields}
use Rattle.plan_spec.specs.Signalling.{table_of}
use Rattle.psi_spec.specs.Pat.{ProgramFields, pat_bytes}
use Rattle.psi_spec.specs.Pmt.{pmt_bytes}
use Rattle.psi_spec.specs.Tables.{laid, laid_pmt, pmt_of, pat_of_plan, programs_of, tables_with, table_packets_of}
use Rattle.ipe_io.specs.Told.{InputTold}
use Rattle.find_command.specs.Finding.{IsFoundIn}

abbrev pub Is188 : List ℕ → Type 0
Is188 piece = length piece ≡ 188

packets_sized : (pid : ℕ) (packets : List PacketFields) → ((n : ℕ) → n < length packets → IsOn pid (packet_at packets n)) → All Is188 (map written packets)
packets_sized pid [] on = All-nil Is188
packets_sized pid (packet ∷ packets) on =
    All-cons Is188 (written packet) (map written packets) (let size : length packet.payload ≡ 184 = (on 0 (omega arith)).size in omega (arith, size))
    (packets_sized pid packets (λ n less. on (suc n) (omega (arith, less))))

laid_sized : (pid : ℕ) (section : List ℕ) → All Is188 (laid pid section)
laid_sized pid section =
    packets_sized pid (packetized section_form true pid 0 (section ∷ [])) (λ n less. packetized_on section_form true pid 0 (section ∷ []) (omega arith) n less)

pmts_sized : (plan : PlanFields) (programs : List ProgramFields) → All Is188 (flat_map (laid_pmt plan) programs)
pmts_sized plan [] = All-nil Is188
pmts_sized plan (program ∷ programs) = All-append Is188 (laid_pmt plan program) (flat_map (laid_pmt plan) programs) (laid_sized program.pid (pmt_bytes (pmt_of plan program.number))) (pmts_sized plan programs)

tables_sized : (plan : PlanFields) (table : Option IntFields) → All Is188 (tables_with plan table)
tables_sized plan None = All-nil Is188
tables_sized plan (Some int) =
    let front : List (List ℕ) = laid 0 (pat_bytes (pat_of_plan plan int)) in
    let pmts : List (List ℕ) = flat_map (laid_pmt plan) (programs_of plan) in
    All-append Is188 (front ++ pmts) (laid int.pid (table_bytes (table_of plan int)))
    (All-append Is188 front pmts (laid_sized 0 (pat_bytes (pat_of_plan plan int))) (pmts_sized plan (programs_of plan)))
    (laid_sized int.pid (table_bytes (table_of plan int)))

pub tables_cut : (plan : PlanFields) → IsCut 188 (joined (table_packets_of plan)) (table_packets_of plan) []
tables_cut plan = record {
  whole = sym (append-nil (joined (table_packets_of plan)));
  each = tables_sized plan plan.table;
  short = omega arith;
}

-- an input that was read to its end is cut into what was read
consumed : (bytes front : List ℕ) (left now : Option (List ℕ)) → left ≡ Some bytes → Consumes left now front → IsAtEnd now → bytes ≡ front
consumed bytes front None now told consumes at_end = absurd (cc)
consumed bytes front (Some all) None told consumes at_end = absurd consumes
consumed bytes front (Some all) (Some rest) told consumes at_end =
    let same : bytes ≡ all = cc in
    same ∙ consumes ∙ ap (λ (r : List ℕ). front ++ r) at_end ∙ append-nil front

pub found_cut : (pid : ℕ) (input now : InputTold) (bytes text : List ℕ) → input.left ≡ Some bytes → (found : IsFoundIn pid input now text)
    → IsCut 188 bytes found.reads.pieces found.reads.behind
found_cut pid input now bytes text told found = record {
  whole = consumed bytes (joined found.reads.pieces ++ found.reads.behind) input.left now.left told found.reads.read.consumed found.reads.at_end;
  each = found.reads.read.each;
  short = found.reads.read.short;
}
