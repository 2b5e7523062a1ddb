use Rattle.std.proofs.Common.{◌≡◌, ◌∙◌, ℕ, ◌-◌, List, length, map, sym, ap, subst, arith, refl, Option, Some, None}
use Rattle.std.specs.Prelude.{find}
use Rattle.std.specs.List.{range_with_len}
use Rattle.std.proofs.lemmas.List.{length-map}
use Rattle.ts_mux.specs.Services.{turns_in_service, has_packets, Serving, serving_of}
use Rattle.slice_spec.specs.Windows.{OwnedWindow}
use Rattle.time_slice.specs.Views.{windows_in}
use Rattle.ts_mux.specs.declared.service_packets.ServicePackets.{ServicePackets}
use Rattle.ts_mux.proofs.Turned.{turn_two, IsTurn, is_turn}
use Rattle.ts_mux.proofs.services.Services.turn.Goals as goal

pub returns-in-Some : goal.returns-in-Some
returns-in-Some c =
    let items : List ServicePackets = c.self.inside.services.items in
    let windows : List OwnedWindow = windows_in c.self.inside.windows.items in
    let first : ℕ = c.self.inside.first in
    let serving : Serving = serving_of items windows first in
    let told : IsTurn c.args.self.now (Some c.in-Some.k) = subst (λ (s : Serving). IsTurn s (Some c.in-Some.k)) c.self.view_is
    (is_turn serving (Some c.in-Some.k) (omega (arith, c.self.invariant, length-map items turns_in_service))
    (turn_two items c.deref.result.now windows first c.len.result (Some c.in-Some.k) (find (has_packets (map turns_in_service items)) (range_with_len 0 first))
    c.deref.ensures.value (omega (arith, c.len.ensures, c.deref.ensures.len, ap (λ (ls : List ServicePackets). length ls) c.deref.ensures.value)) c.self.invariant
    (sym c.in-Some.is ∙ c.find_from.ensures) refl)) in
    record { read = told.read; left = told.left }

pub returns-in-None : goal.returns-in-None
returns-in-None c =
    let items : List ServicePackets = c.self.inside.services.items in
    let windows : List OwnedWindow = windows_in c.self.inside.windows.items in
    let first : ℕ = c.self.inside.first in
    let serving : Serving = serving_of items windows first in
    let rest : Option ℕ = c.find_from-in-None.result in
    let none_off : first - 0 ≡ first = omega arith in
    let told : IsTurn c.args.self.now rest = subst (λ (s : Serving). IsTurn s rest) c.self.view_is
    (is_turn serving rest (omega (arith, c.self.invariant, length-map items turns_in_service))
    (turn_two items c.deref.result.now windows first c.len.result None rest
    c.deref.ensures.value (omega (arith, c.len.ensures, c.deref.ensures.len, ap (λ (ls : List ServicePackets). length ls) c.deref.ensures.value)) c.self.invariant
    (sym c.in-None.is ∙ c.find_from.ensures)
    (c.find_from-in-None.ensures ∙ ap (λ (ls : List ServicePackets). find (has_packets (map turns_in_service ls)) (range_with_len 0 (first - 0))) c.deref-in-None.ensures.value
    ∙ ap (λ (n : ℕ). find (has_packets (map turns_in_service items)) (range_with_len 0 n)) none_off))) in
    record { read = told.read; left = told.left }
