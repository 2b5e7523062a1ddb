use Rattle.std.proofs.Common.{ℕ, ◌≤◌, ◌∙◌, List, map, length, ap, sym, subst}
use Rattle.std.proofs.lemmas.List.{length-map}
use Rattle.plan.specs.Parts.{form_of, service_seen}
use Rattle.demux_core.specs.declared.service.ServiceReceiver.{ServiceReceiver}
use Rattle.demux_core.proofs.Opened.{as_many}
use Rattle.demux_core.proofs.services.open_services.Goals as goal

pub open_places-requires : goal.open_places-requires
open_places-requires c = record {
  few = subst (λ (n : ℕ). n ≤ 64)
      (sym (length-map c.args.list.now service_seen)
      ∙ sym (as_many (form_of c.args.recording) (map service_seen c.args.list.now) c.in_ok-receivers.receivers.items c.in_ok-receivers.ensures.opened)
      ∙ ap (λ (xs : List ServiceReceiver). length xs) (sym c.as_slice.ensures.value))
      c.requires.few;
}
