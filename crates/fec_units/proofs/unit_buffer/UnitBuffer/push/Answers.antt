use Rattle.std.proofs.Common.{◌≡◌, ℕ, ◌+◌, ◌-◌, ◌≤◌, List, [], ◌∷◌, ◌++◌, length, take, ap, sym, subst, ◌∙◌, ◌<◌, arith, rules}
use borrow.Rule.Slice.PartMut.{put_mid, same_len_mid}
use Rattle.std.proofs.lemmas.List.{length-set, length-take-le, take_more_set, with_items_is}
use Rattle.std.proofs.lemmas.Slice.{take-put_mid}
use Rattle.ip_datagram.proofs.Held.{held_ends}
use Rattle.fec_units.specs.Timed.{AreHeld, UnitRoom}
use Rattle.fec_units.proofs.Held.{grown_end, held_rising, held_units}
use Rattle.fec_units.proofs.unit_buffer.UnitBuffer.push.Goals as goal

pub returns-clause-bytes : goal.returns-clause-bytes
returns-clause-bytes c =
    let at = c.self.inside.used in
    let all = c.deref_mut.result.now in
    let new = c.copy_from_slice.new.self in
    let n = length c.args.unit.now in
    let k = at + n - at in
    let long : length (put_mid at k all new) ≡ c.self.inside.bytes.len = same_len_mid at k all new c.copy_from_slice.ensures.len ∙ c.deref_mut.ensures.len in
    ap (take (at + n)) (with_items_is c.self.inside.bytes (put_mid at k all new) long)
    ∙ take-put_mid at k all new (at + n) (ap (λ (l : List ℕ). at + length l) (sym c.copy_from_slice.ensures.after)) (search rules)
    ∙ (λ i. take at (c.deref_mut.ensures.value i) ++ c.copy_from_slice.ensures.after i)
    ∙ ap (λ (v : UnitRoom). v.bytes ++ c.args.unit.now) c.self.view_is

pub returns-clause-written : goal.returns-clause-written
returns-clause-written c =
    let end = c.self.inside.used + length c.args.unit.now in
    let are : AreHeld c.args.self.now.bytes c.args.self.now.ends = subst (λ (v : UnitRoom). AreHeld v.bytes v.ends) c.self.view_is c.self.invariant.2 in
    let sum : end ≡ length c.args.self.now.bytes + length c.args.unit.now =
    omega (arith, ap (λ (v : UnitRoom). length v.bytes) c.self.view_is, length-take-le c.self.inside.used c.self.inside.bytes.items c.self.invariant.0) in
    let there = grown_end c.args.self.now.bytes c.args.unit.now _ end (returns-clause-bytes c) sum in
    let room : c.self.inside.count < length c.self.inside.ends.items =
    omega (
      arith,
      c.requires.units,
      ap (λ (v : UnitRoom). length v.ends) c.self.view_is,
      ap (λ (v : UnitRoom). v.units_most) c.self.view_is,
      length-take-le c.self.inside.count c.self.inside.ends.items c.self.invariant.1,
    ) in
    let more = take_more_set c.self.inside.ends.items c.self.inside.count end room ∙ ap (λ (v : UnitRoom). v.ends ++ end ∷ []) c.self.view_is in
    held_units c.args.self.now.bytes c.args.unit.now c.args.self.now.ends _ _ end (returns-clause-bytes c) there more are.ends_are

pub returns-clause-held : goal.returns-clause-held
returns-clause-held c =
    let end = c.self.inside.used + length c.args.unit.now in
    let are : AreHeld c.args.self.now.bytes c.args.self.now.ends = subst (λ (v : UnitRoom). AreHeld v.bytes v.ends) c.self.view_is c.self.invariant.2 in
    let sum : end ≡ length c.args.self.now.bytes + length c.args.unit.now =
    omega (arith, ap (λ (v : UnitRoom). length v.bytes) c.self.view_is, length-take-le c.self.inside.used c.self.inside.bytes.items c.self.invariant.0) in
    let there = grown_end c.args.self.now.bytes c.args.unit.now _ end (returns-clause-bytes c) sum in
    let room : c.self.inside.count < length c.self.inside.ends.items =
    omega (
      arith,
      c.requires.units,
      ap (λ (v : UnitRoom). length v.ends) c.self.view_is,
      ap (λ (v : UnitRoom). v.units_most) c.self.view_is,
      length-take-le c.self.inside.count c.self.inside.ends.items c.self.invariant.1,
    ) in
    let more = take_more_set c.self.inside.ends.items c.self.inside.count end room ∙ ap (λ (v : UnitRoom). v.ends ++ end ∷ []) c.self.view_is in
    record {
      ends_are = held_ends c.args.self.now.bytes c.args.unit.now c.args.self.now.ends _ _ end (returns-clause-bytes c) there more are.ends_are;
      rising = held_rising c.args.self.now.bytes c.args.unit.now c.args.self.now.ends _ _ end c.requires.some (returns-clause-bytes c) there more are.ends_are are.rising;
    }

pub invariant_of-self : goal.invariant_of-self
invariant_of-self c =
    let at = c.self.inside.used in
    let all = c.deref_mut.result.now in
    let new = c.copy_from_slice.new.self in
    let k = at + length c.args.unit.now - at in
    let long : length (put_mid at k all new) ≡ c.self.inside.bytes.len = same_len_mid at k all new c.copy_from_slice.ensures.len ∙ c.deref_mut.ensures.len in
    let same = ap (λ (l : List ℕ). length l) (with_items_is c.self.inside.bytes (put_mid at k all new) long) ∙ long in
    let room : at + length c.args.unit.now ≤ c.self.inside.bytes.len =
    omega (
      arith,
      c.requires.bytes,
      ap (λ (v : UnitRoom). length v.bytes) c.self.view_is,
      ap (λ (v : UnitRoom). v.bytes_most) c.self.view_is,
      length-take-le at c.self.inside.bytes.items c.self.invariant.0,
      ap (λ (l : List ℕ). length l) c.deref_mut.ensures.value,
      c.deref_mut.ensures.len,
    ) in
    let count : c.self.inside.count < length c.self.inside.ends.items =
    omega (
      arith,
      c.requires.units,
      ap (λ (v : UnitRoom). length v.ends) c.self.view_is,
      ap (λ (v : UnitRoom). v.units_most) c.self.view_is,
      length-take-le c.self.inside.count c.self.inside.ends.items c.self.invariant.1,
    ) in (
      omega (arith, room, same),
      omega (arith, count, length-set c.self.inside.ends.items c.self.inside.count (at + length c.args.unit.now)),
      returns-clause-held c,
    )
