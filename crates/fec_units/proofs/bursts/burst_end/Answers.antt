use Rattle.std.proofs.Common.{◌≡◌, ℕ, ◌+◌, ◌*◌, ◌≤◌, Bool, true, false, ◌&&◌, leb, List, [], length, get_or, refl, ap, ap₂, sym, ◌∙◌, arith}
use Rattle.reassembly_law.proofs.Outcomes.{true_leb}
use Rattle.wire_spec.specs.Lists.{joined}
use Rattle.stream_spec.specs.Units.{burst_size, fits_window}
use Rattle.fec_units.specs.declared.packets.NextSection.{NextSection}
use Rattle.fec_units.specs.Packets.{after_section, after_sections, data_sizes, first_section}
use Rattle.fec_units.specs.Parts.{part_of}
use Rattle.fec_sent_law.specs.Frames.{IsSendable}
use Rattle.fec_units.proofs.Going.{going_first, going_on, going_over}
use Rattle.fec_units.proofs.Parts.{got, part_bytes_more, part_none, rows_within, sendable_at}
use Rattle.fec_units.proofs.Timed.{none_after, part_after}
use Rattle.fec_units.proofs.bursts.burst_end.Goals as goal

both : (a b : Bool) → (a && b) ≡ true → a ≡ true
both true b is = refl
both false b is = absurd (cc)

pub loop-end-init : goal.loop-end-init
loop-end-init c =
    let list : List (List ℕ) = c.args.list.now in
    let from : ℕ = c.args.from in
    let is = got list from c.at-used.result.now c.at-used.ensures.read in
    let it : IsSendable c.at-used.result.now = sendable_at list from c.at-used.result.now c.at-used.ensures.read c.requires.datagrams in
    let size : c.mpe_size.result ≡ length (get_or list from []) + 16 = c.mpe_size.ensures.sum ∙ ap (λ (l : List ℕ). length l + 16) (sym is.1) in
    record {
      used = omega (
        arith,
        part_bytes_more from from list (omega arith) is.0,
        ap (λ (l : List (List ℕ)). length (joined l)) (part_none from list),
        ap (λ (l : List ℕ). length l) is.1,
      );
      fits = omega (arith, it.size, (rows_within c.args.rows c.requires.rows).0);
      next =
          c.after-next.ensures.after
          ∙ ap₂ after_section (c.first.ensures ∙ sym (none_after first_section from list)) size
          ∙ sym (part_after first_section from from list (omega arith) is.0);
      few = omega (arith, c.after-next.ensures.most, ap (λ (n : NextSection). n.packet) c.first.ensures);
      going = going_first (fits_window c.args.rows c.args.columns c.args.slots) list from is.0;
    }

pub mpe_size-requires-in-loop-end : goal.mpe_size-requires-in-loop-end
mpe_size-requires-in-loop-end c = (sendable_at c.args.list.now c.loop-end.end c.at-size.result.now c.at-size.ensures.read c.requires.datagrams).size

pub after-next-requires-in-loop-end-clause-size : goal.after-next-requires-in-loop-end-clause-size
after-next-requires-in-loop-end-clause-size c =
    omega (arith, c.mpe_size-in-loop-end.ensures.sum, (sendable_at c.args.list.now c.loop-end.end c.at-size.result.now c.at-size.ensures.read c.requires.datagrams).size)

pub returns-then-not-are_fitting-clause-burst : goal.returns-then-not-are_fitting-clause-burst
returns-then-not-are_fitting-clause-burst c =
    let list : List (List ℕ) = c.args.list.now in
    let from : ℕ = c.args.from in
    let end : ℕ = c.loop-end.end in
    let is = got list end c.at-size.result.now c.at-size.ensures.read in
    let order : from ≤ end = omega (arith, c.loop-end.auto.end) in
    let size : c.mpe_size-in-loop-end.result ≡ length (get_or list end []) + 16 = c.mpe_size-in-loop-end.ensures.sum ∙ ap (λ (l : List ℕ). length l + 16) (sym is.1) in
    let used : c.loop-end.used + length c.at-size.result.now ≡ length (joined (part_of from (end + 1) list)) =
    omega (arith, c.loop-end.invariant.used, part_bytes_more from end list order is.0, ap (λ (l : List ℕ). length l) is.1) in
    let next : c.after-next-in-loop-end.result ≡ after_sections first_section (data_sizes (part_of from (end + 1) list)) =
    c.after-next-in-loop-end.ensures.after ∙ ap₂ after_section c.loop-end.invariant.next size ∙ sym (part_after first_section from end list order is.0) in
    going_over (fits_window c.args.rows c.args.columns c.args.slots) list from end order is.0 c.loop-end.invariant.going
    (sym (c.are_fitting.ensures.fits (part_of from (end + 1) list) used next) ∙ c.if-not-are_fitting.true)

pub loop-end-preserved : goal.loop-end-preserved
loop-end-preserved c =
    let list : List (List ℕ) = c.args.list.now in
    let from : ℕ = c.args.from in
    let end : ℕ = c.loop-end.end in
    let is = got list end c.at-size.result.now c.at-size.ensures.read in
    let order : from ≤ end = omega (arith, c.loop-end.auto.end) in
    let part : List (List ℕ) = part_of from (end + 1) list in
    let size : c.mpe_size-in-loop-end.result ≡ length (get_or list end []) + 16 = c.mpe_size-in-loop-end.ensures.sum ∙ ap (λ (l : List ℕ). length l + 16) (sym is.1) in
    let used : c.loop-end.used + length c.at-size.result.now ≡ length (joined (part_of from (end + 1) list)) =
    omega (arith, c.loop-end.invariant.used, part_bytes_more from end list order is.0, ap (λ (l : List ℕ). length l) is.1) in
    let next : c.after-next-in-loop-end.result ≡ after_sections first_section (data_sizes (part_of from (end + 1) list)) =
    c.after-next-in-loop-end.ensures.after ∙ ap₂ after_section c.loop-end.invariant.next size ∙ sym (part_after first_section from end list order is.0) in
    let fit : fits_window c.args.rows c.args.columns c.args.slots (part_of from (end + 1) list) ≡ true =
    sym (c.are_fitting.ensures.fits (part_of from (end + 1) list) used next) ∙ c.if-not-are_fitting.false in
    record {
      used = used;
      fits = omega (
        arith,
        used,
        true_leb (length (joined (part_of from (end + 1) list))) (191 * c.args.rows)
            (both (leb (length (joined (part_of from (end + 1) list))) (191 * c.args.rows)) (leb (burst_size c.args.rows c.args.columns (part_of from (end + 1) list)) c.args.slots) fit),
      );
      next = next;
      few = omega (arith, c.after-next-in-loop-end.ensures.most, c.loop-end.invariant.few);
      going = going_on (fits_window c.args.rows c.args.columns c.args.slots) list from end order is.0 c.loop-end.invariant.going fit;
    }
