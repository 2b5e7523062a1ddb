use Rattle.std.proofs.Common.{◌≡◌, ◌≤◌, ℕ, ◌+◌, ◌-◌, List, ◌++◌, length, take, drop, refl, sym, ap, ◌∙◌, subst, arith, Some}
use Rattle.std.proofs.lemmas.List.{take_all}
use Rattle.plan.specs.Parts.{kind_seen}
use Rattle.ts_mux.specs.Units.{unit_bytes}
use Rattle.ts_mux.specs.Reading.{IsBegun}
use Rattle.ts_mux.proofs.Reading.{in_datagram, left_copied}
use Rattle.ts_mux.proofs.unit_bytes.UnitBytes.read_datagram.Goals as goal

one_is : (a b : List ℕ) → Some a ≡ Some b → a ≡ b
one_is a b e = cc

pub returns-clause-read : goal.returns-clause-read
returns-clause-read c = λ copied.
    let units = c.args.self.now in
    let n : ℕ = length c.copy_from_slice.new.self in
    let datagram : List ℕ = c.at-datagram.result.now in
    let begun = c.requires.reading.begun (omega (arith, c.if-self-eq0.false)) in
    let is : IsBegun (kind_seen c.args.service.now.kind) c.args.service.now.unicast datagram units
    = subst (λ (d : List ℕ). IsBegun (kind_seen c.args.service.now.kind) c.args.service.now.unicast d units) (one_is begun.0 datagram (sym begun.1 ∙ c.at-datagram.ensures.read)) begun.2 in
    let after : units.head ≤ units.out = omega (arith, c.if-self.false) in
    let within : units.out - units.head + n ≤ length datagram = omega (arith, c.if-place-datagram.false, c.if-datagram-place.false, ap length c.copy_from_slice.ensures.after) in
    let size : units.out - units.head + length c.args.into.now - (units.out - units.head) ≡ n = omega arith in
    let whole : take n c.copy_from_slice.new.self ≡ c.copy_from_slice.new.self = take_all n c.copy_from_slice.new.self (omega arith) in
    left_copied (kind_seen c.args.service.now.kind) c.args.service.now.unicast c.args.datagrams.now units datagram c.at-datagram.ensures.read units is refl refl
    c.copy_from_slice.new.self n (omega (arith, within, after))
    (whole ∙ c.copy_from_slice.ensures.after ∙ ap (λ (m : ℕ). take m (drop (units.out - units.head) datagram)) size
    ∙ sym (in_datagram units.around datagram units.head units.out n is.fits after within))
    ∙ ap (λ (t : List ℕ). t ++ drop (units.out + n) (unit_bytes (kind_seen c.args.service.now.kind) c.args.service.now.unicast (drop units.count c.args.datagrams.now))) whole
