use Rattle.std.proofs.Common.{◌≡◌, ℕ, suc, ◌+◌, ◌-◌, ◌<◌, ◌∷◌, [], ◌++◌, false, eqb, List, length, take, drop, slice_index, Some, refl, ap, ap₂, sym, ◌∙◌, arith}
use Rattle.std.proofs.lemmas.List.{append-nil, length-append}
use Rattle.section_spec.specs.Mpe.{RealTimeFields, mpe_bytes, mpe_to_write}
use Rattle.fec_frame_spec.specs.Frame.{datagram_at, datagram_start}
use Rattle.fec_frame_law.proofs.Places.{start_all, start_most, start_next, start_zero}
use Rattle.unit_stream.specs.Packers.{units_of}
use Rattle.fec_units.specs.declared.packets.NextSection.{NextSection}
use Rattle.fec_units.specs.Packets.{after_section}
use Rattle.fec_units.specs.Parts.{data_time, part_of}
use Rattle.fec_units.specs.Timed.{before_datagram, delta_at}
use Rattle.fec_sent_law.specs.Frames.{IsSendable}
use Rattle.fec_units.proofs.Parts.{got, length-part, part_at, sendable_at}
use Rattle.fec_units.proofs.Shortest.{part_bytes}
use Rattle.fec_units.proofs.Timed.{before_more, data_size, timed_data_more}
use Rattle.fec_units.proofs.Written.{front_unit, time_is}
use Rattle.fec_units.proofs.burst_sections.put_burst_data.Goals as goal

pub loop-n-init : goal.loop-n-init
loop-n-init c = record {
  units = sym (append-nil (units_of c.args.units.now.bytes c.args.units.now.ends));
  next = c.first-next.ensures;
  few = omega (arith, ap (λ (n : NextSection). n.packet) c.first-next.ensures);
  address = sym (start_zero (part_of c.args.from c.args.end c.args.list.now));
  bytes = omega arith;
  ends = omega arith;
  bytes_most = refl;
  units_most = refl;
  held = c.requires.held;
  work = c.requires.work;
}

pub receivers_of-mac-requires : goal.receivers_of-mac-requires
receivers_of-mac-requires c = record {
  datagram = (sendable_at c.args.list.now (c.args.from + c.loop-n.n) c.at-datagram.result.now c.at-datagram.ensures.read c.requires.datagrams).is;
}

pub write_mpe-size-requires-clause-parameters : goal.write_mpe-size-requires-clause-parameters
write_mpe-size-requires-clause-parameters c = record {
  delta_below = c.delta_of-delta.ensures.below;
  address_below = omega (arith, c.loop-n.invariant.address, start_most (part_of c.args.from c.args.end c.args.list.now) c.loop-n.n, c.requires.fits);
}

pub write_mpe-size-requires-clause-size : goal.write_mpe-size-requires-clause-size
write_mpe-size-requires-clause-size c =
    (sendable_at c.args.list.now (c.args.from + c.loop-n.n) c.at-datagram.result.now c.at-datagram.ensures.read c.requires.datagrams).size

pub write_mpe-size-requires-clause-room : goal.write_mpe-size-requires-clause-room
write_mpe-size-requires-clause-room c =
    omega (
      arith,
      (sendable_at c.args.list.now (c.args.from + c.loop-n.n) c.at-datagram.result.now c.at-datagram.ensures.read c.requires.datagrams).size,
      c.loop-n.invariant.work,
    )

pub push-requires-clause-bytes : goal.push-requires-clause-bytes
push-requires-clause-bytes c =
    let list : List (List ℕ) = c.args.list.now in
    let ds : List (List ℕ) = part_of c.args.from c.args.end list in
    let n : ℕ = c.loop-n.n in
    let d : List ℕ = c.at-datagram.result.now in
    let t : RealTimeFields = record { delta = c.delta_of-delta.result; table_boundary = eqb (n + 1) (c.args.end - c.args.from); frame_boundary = false; address = c.loop-n.address } in
    let is = got list (c.args.from + n) d c.at-datagram.ensures.read in
    let less : n < c.args.end - c.args.from = omega (arith, c.loop-n-test.true) in
    let count : length ds ≡ c.args.end - c.args.from = length-part c.args.from c.args.end list (omega (arith, c.requires.from)) c.requires.end in
    let here : datagram_at ds n ≡ d = part_at c.args.from c.args.end list n less ∙ is.1 in
    let taken : take c.write_mpe-size.result c.write_mpe-size.new.into ≡ mpe_bytes (mpe_to_write c.receivers_of-mac.result (Some t) d) =
    front_unit (mpe_bytes (mpe_to_write c.receivers_of-mac.result (Some t) d)) (drop c.write_mpe-size.result c.loop-n.work) c.write_mpe-size.new.into c.write_mpe-size.result
    c.write_mpe-size.ensures.written c.write_mpe-size.ensures.size in
    omega (
      arith,
      ap (λ (l : List ℕ). length l) taken,
      data_size c.receivers_of-mac.result d t,
      c.loop-n.invariant.bytes,
      c.loop-n.invariant.address,
      c.loop-n.invariant.bytes_most,
      start_next ds n (omega (arith, less, count)),
      ap (λ (l : List ℕ). length l) here,
      start_most ds (suc n),
      less,
      c.requires.bytes,
    )

pub after-next-requires-clause-few : goal.after-next-requires-clause-few
after-next-requires-clause-few c =
    omega (
      arith,
      c.loop-n.invariant.few,
      c.loop-n-test.true,
      part_bytes c.args.from c.args.end c.args.list.now c.requires.datagrams (omega (arith, c.requires.from)) c.requires.end,
      c.requires.fits,
    )

pub overflow_add-address : goal.overflow_add-address
overflow_add-address c =
    let it : IsSendable c.at-datagram.result.now =
    sendable_at c.args.list.now (c.args.from + c.loop-n.n) c.at-datagram.result.now c.at-datagram.ensures.read c.requires.datagrams in
    omega (arith, it.size, c.loop-n.invariant.address, start_most (part_of c.args.from c.args.end c.args.list.now) c.loop-n.n, c.requires.fits)

pub loop-n-preserved : goal.loop-n-preserved
loop-n-preserved c =
    let list : List (List ℕ) = c.args.list.now in
    let ds : List (List ℕ) = part_of c.args.from c.args.end list in
    let n : ℕ = c.loop-n.n in
    let d : List ℕ = c.at-datagram.result.now in
    let t : RealTimeFields = record { delta = c.delta_of-delta.result; table_boundary = eqb (n + 1) (c.args.end - c.args.from); frame_boundary = false; address = c.loop-n.address } in
    let unit : List ℕ = mpe_bytes (mpe_to_write c.receivers_of-mac.result (Some t) d) in
    let is = got list (c.args.from + n) d c.at-datagram.ensures.read in
    let less : n < c.args.end - c.args.from = omega (arith, c.loop-n-test.true) in
    let count : length ds ≡ c.args.end - c.args.from = length-part c.args.from c.args.end list (omega (arith, c.requires.from)) c.requires.end in
    let here : datagram_at ds n ≡ d = part_at c.args.from c.args.end list n less ∙ is.1 in
    let within : n < length ds = omega (arith, less, count) in
    let next : suc n ≡ n + 1 = omega arith in
    let taken : take c.write_mpe-size.result c.write_mpe-size.new.into ≡ unit =
    front_unit unit (drop c.write_mpe-size.result c.loop-n.work) c.write_mpe-size.new.into c.write_mpe-size.result c.write_mpe-size.ensures.written c.write_mpe-size.ensures.size in
    let size : c.write_mpe-size.result ≡ length d + 16 = c.write_mpe-size.ensures.size ∙ data_size c.receivers_of-mac.result d t in
    let delta : c.delta_of-delta.result ≡ delta_at c.args.deltas.now (before_datagram ds n) =
    c.delta_of-delta.ensures.read ∙ ap (λ (x : NextSection). slice_index c.args.deltas.now x.packet) c.loop-n.invariant.next in
    record {
      units =
          timed_data_more c.args.unicast ds c.args.deltas.now n (units_of c.args.units.now.bytes c.args.units.now.ends) (units_of c.loop-n.units.bytes c.loop-n.units.ends)
          (units_of c.push.new.self.bytes c.push.new.self.ends) c.receivers_of-mac.result t d c.loop-n.invariant.units
          (c.push.ensures.written ∙ ap (λ (u : List ℕ). units_of c.loop-n.units.bytes c.loop-n.units.ends ++ u ∷ []) taken) c.receivers_of-mac.ensures.read here
          (time_is ds c.delta_of-delta.result n c.loop-n.address (eqb (n + 1) (c.args.end - c.args.from)) (ap (λ (k : ℕ). eqb (n + 1) k) (sym count)) c.loop-n.invariant.address
          ∙ ap (λ (x : ℕ). data_time ds x n) delta);
      next =
          c.after-next.ensures.after
          ∙ ap₂ after_section c.loop-n.invariant.next (size ∙ ap (λ (l : List ℕ). length l + 16) (sym here))
          ∙ sym (before_more ds n within);
      few = omega (arith, c.after-next.ensures.most, c.loop-n.invariant.few);
      address = omega (
        arith,
        c.loop-n.invariant.address,
        start_next ds n within,
        ap (λ (l : List ℕ). length l) here,
        ap (λ (k : ℕ). datagram_start ds k) next,
      );
      bytes = omega (
        arith,
        ap (λ (l : List ℕ). length l) c.push.ensures.bytes,
        length-append c.loop-n.units.bytes (take c.write_mpe-size.result c.write_mpe-size.new.into),
        ap (λ (l : List ℕ). length l) taken,
        data_size c.receivers_of-mac.result d t,
        c.loop-n.invariant.bytes,
      );
      ends = omega (arith, c.push.ensures.units, c.loop-n.invariant.ends);
      bytes_most = c.push.ensures.bytes_most ∙ c.loop-n.invariant.bytes_most;
      units_most = c.push.ensures.units_most ∙ c.loop-n.invariant.units_most;
      held = c.push.ensures.held;
      work = c.write_mpe-size.auto.into ∙ c.loop-n.invariant.work;
    }

pub returns-clause-bytes : goal.returns-clause-bytes
returns-clause-bytes c =
    let ds : List (List ℕ) = part_of c.args.from c.args.end c.args.list.now in
    let count : length ds ≡ c.args.end - c.args.from = length-part c.args.from c.args.end c.args.list.now (omega (arith, c.requires.from)) c.requires.end in
    let all : c.loop-n.n ≡ length ds = omega (arith, count, c.loop-n-test.false, c.loop-n.auto.n-end) in
    omega (arith, c.loop-n.invariant.bytes, c.loop-n.invariant.address, ap (λ (k : ℕ). datagram_start ds k) all, start_all ds, all, count)
