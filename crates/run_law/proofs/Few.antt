-- Of fewer than 2^32 pieces no more are read.
use Rattle.std.proofs.Common.{◌≡◌, inl, inr, ℕ, ◌+◌, ◌*◌, List, [], ◌∷◌, ◌++◌, length, ap, subst, ◌∙◌, arith, Option, Some}
use Rattle.std.proofs.lemmas.List.{length-append}
use Rattle.wire_spec.specs.Causes.{raised, RoseBy}
use Rattle.wire_spec.specs.Lists.{IsCut}
use Rattle.ts_record.proofs.Cuts.{one_cut}
use Rattle.ipe_io.specs.Told.{InputTold}
use Rattle.plan_spec.specs.Plan.{PlanFields}
use Rattle.carrier_spec.specs.Stream.{piece_size}
use Rattle.recording_spec.specs.Relayed.{relayed}
use Rattle.recording_reader.specs.Reading.{most_pieces as most_records}
use Rattle.recording_reader.specs.Taken.{HasRead}
use Rattle.relay_core.specs.Gathering.{FitsCapture}
use Rattle.relay_command.specs.Gathered.{PassesCapture, HasTooMany, at_most, within, after}
use Rattle.ipencap_engine.specs.World.{World}
use Rattle.ipencap_engine.proofs.Pieces.{CutBehind, cut_behind}
use Rattle.ipencap_engine.proofs.Received.{read_cut}
use Rattle.run_law.specs.Accepted.{TellsFewPieces}
use Rattle.run_law.proofs.Longer.{front_fits}

pub by_count : (size before now count : ℕ) → count ≡ size * most_records → now ≡ raised before count → ¬ RoseBy before now (size * most_records) → ⊥
by_count size before now count all taken few =
    few (let e : now ≡ raised before (size * most_records) = taken ∙ ap (raised before) all in omega (arith, e))

-- the told pieces go on behind those that were read
pub read_front : (size : ℕ) (left now : Option (List ℕ)) (bytes : List ℕ) (pieces tail read : List (List ℕ)) (behind : List ℕ) → left ≡ Some bytes
    → (rest : List ℕ) → IsCut size bytes pieces rest → HasRead size left now read behind → (others : List (List ℕ)) × (pieces ≡ read ++ others)
read_front size left now bytes pieces tail read behind told rest cut has =
    let more : CutBehind size bytes read = cut_behind size bytes left now read behind (omega (arith, has.short)) told has.each has.consumed in
    (more.others, (one_cut size bytes pieces (read ++ more.others) rest more.tail cut more.cut).0)

pub by_pieces : (size : ℕ) (before : World) (pieces : List (List ℕ)) (now : Option (List ℕ)) (read : List (List ℕ)) (behind : List ℕ) → TellsFewPieces size before pieces
    → HasRead size before.input.left now read behind → length read ≡ most_records → ⊥
by_pieces size before pieces now read behind few has most =
    let front : (others : List (List ℕ)) × (pieces ≡ read ++ others) =
    read_front size before.input.left now few.bytes pieces [] read behind few.told few.tail few.cut has in
    let all : length pieces ≡ length read + length front.0 = ap length front.1 ∙ length-append read front.0 in
    omega (arith, all, most, few.fewer)

-- nor does what they deliver pass the limits of a capture
pub by_limits : (plan : PlanFields) (before : World) (now : InputTold) (pieces : List (List ℕ)) → TellsFewPieces (piece_size plan) before pieces → FitsCapture (relayed plan pieces)
    → HasTooMany plan before.input now → ⊥
by_limits plan before now pieces few fits (at_most stops) = by_pieces (piece_size plan) before pieces now.left stops.pieces [] few stops.read stops.most
by_limits plan before now pieces few fits (within stops) =
    let front : (others : List (List ℕ)) × (pieces ≡ (stops.before ++ stops.piece ∷ []) ++ others) =
    read_front (piece_size plan) before.input.left now.left few.bytes pieces [] (stops.before ++ stops.piece ∷ []) [] few.told few.tail few.cut stops.read in
    front_fits plan (stops.before ++ stops.piece ∷ []) front.0 (subst (λ (ps : List (List ℕ)). FitsCapture (relayed plan ps)) front.1 fits) stops.many
by_limits plan before now pieces few fits (after stops) =
    let same : stops.pieces ≡ pieces =
    (one_cut (piece_size plan) few.bytes stops.pieces pieces stops.read.behind few.tail
    (read_cut (piece_size plan) before.input.left now.left few.bytes stops.pieces stops.read.behind few.told stops.read.read stops.read.at_end) few.cut).0 in
    too_many (relayed plan pieces) fits (subst (λ (ps : List (List ℕ)). PassesCapture (relayed plan ps)) same stops.many)
  where
    too_many : (datagrams : List (List ℕ)) → FitsCapture datagrams → PassesCapture datagrams → ⊥
    too_many datagrams keeps (inl many) = omega (arith, keeps.count, many)
    too_many datagrams keeps (inr many) = omega (arith, keeps.size, many)
