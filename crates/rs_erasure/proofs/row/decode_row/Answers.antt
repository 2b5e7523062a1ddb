use Rattle.std.proofs.Common.{arith, inr, ◌≡◌, ◌≤◌, ap, ◌∙◌, length, get_or, refl}
use Rattle.fec_spec.specs.Field.{field_power}
use Rattle.fec_spec.specs.Codeword.{row_value}
use Rattle.rs_erasure.proofs.Filling.{Filled, filled_agrees, filled_is}
use Rattle.rs_erasure.proofs.row.decode_row.Goals as goal

pub returns-then-has_zeros-clause-done : goal.returns-then-has_zeros-clause-done
returns-then-has_zeros-clause-done c =
    let u : c.as_slice.result.now ≡ c.args.unknown.now.items = c.as_slice.ensures.value in
    let v : c.as_slice-2.result.now ≡ c.args.unknown.now.items = c.as_slice-2.ensures.value in
    let is : Filled c.args.row.now c.cleared-clear.result c.filled-full.result c.args.unknown.now.items (λ m. get_or c.syndromes_of-syndromes.result m 0) =
    rw (← u) (record {
      cleared = c.cleared-clear.ensures.bytes;
      values_are = c.syndromes_of-syndromes.ensures;
      known = rw (u, ← v) c.filled-full.ensures.known;
      found = rw (u, ← v) c.filled-full.ensures.found;
      clear_long = c.cleared-clear.ensures.long;
      full_long = c.filled-full.ensures.long;
      bytes = c.filled-full.ensures.bytes;
    }) in
    λ e. (
      record { long = c.filled-full.ensures.long; bytes = c.filled-full.ensures.bytes; zeros = c.has_zeros.ensures.yes c.if-has_zeros.true },
      filled_agrees c.args.row.now c.cleared-clear.result c.filled-full.result c.args.unknown.now.items (λ m. get_or c.syndromes_of-syndromes.result m 0) is,
    )

pub returns-then-has_zeros-clause-inconsistent : goal.returns-then-has_zeros-clause-inconsistent
returns-then-has_zeros-clause-inconsistent c =
    let done = returns-then-has_zeros-clause-done c refl in
    (λ e. cc, λ p. absurd (p.1 (c.filled-full.result, done.0, done.1)))

pub returns-else-has_zeros-clause-inconsistent : goal.returns-else-has_zeros-clause-inconsistent
returns-else-has_zeros-clause-inconsistent c =
    let u : c.as_slice.result.now ≡ c.args.unknown.now.items = c.as_slice.ensures.value in
    let v : c.as_slice-2.result.now ≡ c.args.unknown.now.items = c.as_slice-2.ensures.value in
    let is : Filled c.args.row.now c.cleared-clear.result c.filled-full.result c.args.unknown.now.items (λ m. get_or c.syndromes_of-syndromes.result m 0) =
    rw (← u) (record {
      cleared = c.cleared-clear.ensures.bytes;
      values_are = c.syndromes_of-syndromes.ensures;
      known = rw (u, ← v) c.filled-full.ensures.known;
      found = rw (u, ← v) c.filled-full.ensures.found;
      clear_long = c.cleared-clear.ensures.long;
      full_long = c.filled-full.ensures.long;
      bytes = c.filled-full.ensures.bytes;
    }) in
    let few : length c.args.unknown.now.items ≤ 64 = omega arith in
    let worse = c.has_zeros.ensures.no c.if-has_zeros.false in (
      λ e. (
        few,
        λ h.
            let same : c.filled-full.result ≡ h.0 =
            filled_is c.args.row.now c.cleared-clear.result c.filled-full.result c.args.unknown.now.items h.0 (λ m. get_or c.syndromes_of-syndromes.result m 0) is c.requires.low few h.1 h.2 in
            worse.2 (ap (λ r. row_value (field_power 2 worse.0) r) same ∙ h.1.zeros worse.0 worse.1),
      ),
      λ p. refl,
    )

pub returns-else-has_zeros-clause-only : goal.returns-else-has_zeros-clause-only
returns-else-has_zeros-clause-only c =
    let none = (returns-else-has_zeros-clause-inconsistent c).0 refl in
    (λ e. cc, λ p. absurd (none.1 p.1))

pub returns-else-has_zeros-clause-corrected : goal.returns-else-has_zeros-clause-corrected
returns-else-has_zeros-clause-corrected c =
    let none = (returns-else-has_zeros-clause-inconsistent c).0 refl in
    inr ((λ p. none.1 p.1), refl)
