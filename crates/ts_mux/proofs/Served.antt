-- Services of which one gave a packet or opened its window.
use Rattle.std.proofs.Common.{◌≡◌, ℕ, zero, suc, ◌+◌, ◌<◌, List, [], ◌∷◌, length, map, get_or, set, drop, refl, sym, ap, ◌∙◌, arith, subst, Option, Some}
use Rattle.std.specs.Prelude.{slice_index_or}
use Rattle.std.proofs.lemmas.List.{map-set}
use Rattle.ts_spec.specs.Packet.{PacketFields}
use Rattle.slice_spec.specs.Windows.{OwnedWindow}
use Rattle.stream_spec.specs.Parts.{written}
use Rattle.ts_mux.specs.Services.{turns_in_service, bursts_in, shape_in, FrameShape, behind_in, Bursts, bursts_of, Serving, serving_of, burst_total, turn_of, TakesTurn, opening, opened_at, GivesBurst}
use Rattle.ts_mux.specs.declared.service_packets.ServicePackets.{ServicePackets}

-- what the others are seen as stays
pub map_kept : {Y : Type 0} (f : ServicePackets → Y) (items : List ServicePackets) (k : ℕ) (old new : ServicePackets) → k < length items → old ≡ get_or items k old → f new ≡ f old
    → map f (set items k new) ≡ map f items
map_kept f [] k old new less is same = absurd (omega (arith, less))
map_kept f (first ∷ items) zero old new less is same = ap (λ y. y ∷ map f items) (same ∙ ap f is)
map_kept f (first ∷ items) (suc k) old new less is same = ap (λ ys. f first ∷ ys) (map_kept f items k old new (omega (arith, less)) is same)

pub bursts_at : (items : List ServicePackets) (k : ℕ) (it : ServicePackets) → k < length items → it ≡ get_or items k it → bursts_of (map bursts_in items) k ≡ bursts_in it
bursts_at [] k it less is = absurd (omega (arith, less))
bursts_at (first ∷ items) zero it less is = ap bursts_in (sym is)
bursts_at (first ∷ items) (suc k) it less is = bursts_at items k it (omega (arith, less)) is

pub turns_at_item : (items : List ServicePackets) (k : ℕ) (it : ServicePackets) → k < length items → it ≡ get_or items k it → slice_index_or (map turns_in_service items) k [] ≡ turns_in_service it
turns_at_item [] k it less is = absurd (omega (arith, less))
turns_at_item (first ∷ items) zero it less is = ap turns_in_service (sym is)
turns_at_item (first ∷ items) (suc k) it less is = turns_at_item items k it (omega (arith, less)) is

-- a service with a burst under way is there
pub known_way : (bursts : List Bursts) (k : ℕ) → 0 < (bursts_of bursts k).under_way → k < length bursts
known_way [] k some = absurd (omega (arith, some))
known_way (b ∷ bursts) zero some = omega arith
known_way (b ∷ bursts) (suc k) some = omega (arith, known_way bursts k some)

same_serving : (t t2 : List (List PacketFields)) (b b2 : List Bursts) (s s2 : List (Option FrameShape)) (h h2 : List ℕ) (windows : List OwnedWindow) (first : ℕ) → t ≡ t2 → b ≡ b2 → s ≡ s2 → h ≡ h2
    → ◌≡◌ {A = Serving} (record { turns = t; bursts = b; shapes = s; behind = h; windows = windows; first = first }) (record { turns = t2; bursts = b2; shapes = s2; behind = h2; windows = windows; first = first })
same_serving t t2 b b2 s s2 h h2 windows first e e2 e3 e4 = rw (e, e2, e3, e4) refl

module _ (items : List ServicePackets) (windows : List OwnedWindow) (first k : ℕ) (old new : ServicePackets) (less : k < length items) (is : old ≡ get_or items k old) where
  -- only its bursts changed
  pub bursts_changed : turns_in_service new ≡ turns_in_service old → shape_in new ≡ shape_in old → behind_in new ≡ behind_in old
      → serving_of (set items k new) windows first ≡ record (serving_of items windows first) { bursts = set (map bursts_in items) k (bursts_in new) }
  bursts_changed turns sliced behind =
      same_serving _ _ _ _ _ _ _ _ windows first (map_kept turns_in_service items k old new less is turns) (map-set bursts_in items k new) (map_kept shape_in items k old new less is sliced)
      (map_kept behind_in items k old new less is behind)

  -- only its packets in rotation did
  pub turns_changed : (after : ℕ) → bursts_in new ≡ bursts_in old → shape_in new ≡ shape_in old → behind_in new ≡ behind_in old
      → serving_of (set items k new) windows after ≡ record (serving_of items windows first) { turns = set (map turns_in_service items) k (turns_in_service new); first = after }
  turns_changed after bursts sliced behind =
      same_serving _ _ _ _ _ _ _ _ windows after (map-set turns_in_service items k new) (map_kept bursts_in items k old new less is bursts) (map_kept shape_in items k old new less is sliced)
      (map_kept behind_in items k old new less is behind)

  -- a burst gave its next packet
  pub given : (now : Serving) → serving_of items windows first ≡ now → (packet : PacketFields) (into : List ℕ) → (bursts_in old).packets ≡ packet ∷ (bursts_in new).packets → into ≡ written packet
      → (bursts_in old).under_way ≡ (bursts_in new).under_way + 1 → (bursts_in new).sizes ≡ (bursts_in old).sizes
      → turns_in_service new ≡ turns_in_service old → shape_in new ≡ shape_in old → behind_in new ≡ behind_in old → GivesBurst now (serving_of (set items k new) windows first) k into
  given now view packet into next into_is left sizes turns sliced behind =
      subst (λ (s : Serving). GivesBurst s (serving_of (set items k new) windows first) k into) view (record {
        packet = packet;
        rest = (bursts_in new).packets;
        under_way = (bursts_in new).under_way;
        next = ap (λ (b : Bursts). b.packets) at ∙ next;
        left = ap (λ (b : Bursts). b.under_way) at ∙ left;
        after = bursts_changed turns sliced behind ∙ ap (λ (s : List ℕ). let it : Serving = record (serving_of items windows first) {
          bursts = set (map bursts_in items) k (record { packets = (bursts_in new).packets; under_way = (bursts_in new).under_way; sizes = s });
        } in it) (sizes ∙ sym (ap (λ (b : Bursts). b.sizes) at));
        bytes_are = into_is;
      })
    where
      at : bursts_of (map bursts_in items) k ≡ bursts_in old
      at = bursts_at items k old less is

  -- its window opened
  pub opened : (now : Serving) → serving_of items windows first ≡ now → bursts_in new ≡ opening (bursts_in old)
      → turns_in_service new ≡ turns_in_service old → shape_in new ≡ shape_in old → behind_in new ≡ behind_in old
      → serving_of (set items k new) windows first ≡ record now { bursts = opened_at now.bursts k zero }
  opened now view bursts turns sliced behind =
      subst (λ (s : Serving). serving_of (set items k new) windows first ≡ record s { bursts = opened_at s.bursts k zero }) view
      (bursts_changed turns sliced behind
      ∙ ap (λ (b : Bursts). let it : Serving = record (serving_of items windows first) { bursts = set (map bursts_in items) k b } in it) (bursts ∙ ap opening (sym (bursts_at items k old less is))))

  -- the service whose turn it was gave a packet
  pub turn_taken : (now : Serving) → serving_of items windows first ≡ now → turn_of now ≡ Some k → (packet : PacketFields) (into : List ℕ) → turns_in_service old ≡ packet ∷ turns_in_service new → into ≡ written packet
      → bursts_in new ≡ bursts_in old → shape_in new ≡ shape_in old → behind_in new ≡ behind_in old → TakesTurn now (serving_of (set items k new) windows (k + 1)) into
  turn_taken now view turn packet into next into_is bursts sliced behind =
      record {
        service = k;
        turn = turn;
        packet = packet;
        rest = turns_in_service new;
        next = ap (λ (s : Serving). slice_index_or s.turns k []) (sym view) ∙ turns_at_item items k old less is ∙ next;
        after = subst (λ (s : Serving). serving_of (set items k new) windows (k + 1) ≡ record s { turns = set s.turns k (turns_in_service new); first = k + 1 }) view
            (turns_changed (k + 1) bursts sliced behind);
        bytes_are = into_is;
      }

-- at another slot nothing opens
pub not_opened : (bursts : List Bursts) (k n : ℕ) → (n ≡ 0 → ⊥) → opened_at bursts k n ≡ bursts
not_opened bursts k zero not = absurd (not refl)
not_opened bursts k (suc n) not = refl

pub opened_first : (bursts : List Bursts) (k n : ℕ) → n ≡ 0 → opened_at bursts k zero ≡ opened_at bursts k n
opened_first bursts k n none = ap (opened_at bursts k) (sym none)

-- What is left in bursts.
pub rest_left : (bursts : List Bursts) (k : ℕ) → k < length bursts → burst_total (drop k bursts) ≡ length (bursts_of bursts k).packets + burst_total (drop (k + 1) bursts)
rest_left [] k less = absurd (omega (arith, less))
rest_left (b ∷ bursts) zero less = refl
rest_left (b ∷ bursts) (suc k) less =
    let next : suc k + 1 ≡ suc (k + 1) = omega arith in
    rest_left bursts k (omega (arith, less)) ∙ ap (λ (n : ℕ). length (bursts_of bursts k).packets + burst_total (drop n (b ∷ bursts))) (sym next)
