-- What an outlet was told: pairs of service and datagram. An outlet stands for lists of them, before some calls and after them.
use Rattle.std.specs.Prelude.{◌≡◌, ℕ, List, [], ◌∷◌, ◌++◌, ◌==◌, map, flat_map, if◌then◌else◌}
use Rattle.std.specs.List.{range_with_len}

-- the datagrams of a service, as pairs of service and datagram
abbrev pub pairs_of : ℕ → List (List ℕ) → List (ℕ × List ℕ)
pairs_of service datagrams = map (λ datagram. (service, datagram)) datagrams

-- those of so many services, one service after another
abbrev pub pairs_of_all : ℕ → (ℕ → List (List ℕ)) → List (ℕ × List ℕ)
pairs_of_all services datagrams = flat_map (λ k. pairs_of k (datagrams k)) (range_with_len 0 services)

-- the datagram of a pair, where it is one of this service
abbrev pub datagram_of : ℕ → ℕ × List ℕ → List (List ℕ)
datagram_of k pair = if pair.0 == k then pair.1 ∷ [] else []

-- the datagrams of a service among pairs of service and datagram, in order
abbrev pub datagrams_of : ℕ → List (ℕ × List ℕ) → List (List ℕ)
datagrams_of k pairs = flat_map (datagram_of k) pairs

-- these pairs were delivered: after each list that the outlet stood for, it stands for them
abbrev pub Delivers : (List (ℕ × List ℕ) → Type 0) → (List (ℕ × List ℕ) → Type 0) → List (ℕ × List ℕ) → Type 0
Delivers old now pairs = (before : List (ℕ × List ℕ)) → old before → now (before ++ pairs)

-- some of these pairs were delivered, and the next of them was refused
pub record DeliversFront (old now : List (ℕ × List ℕ) → Type 0) (refused : ℕ → List ℕ → Type 0) (pairs : List (ℕ × List ℕ)) : Type 0 where
  pub front : List (ℕ × List ℕ)
  pub service : ℕ
  pub datagram : List ℕ
  pub behind : List (ℕ × List ℕ)
  pub pairs_are : pairs ≡ front ++ (service, datagram) ∷ behind
  pub delivers : Delivers old now front
  pub refuses : refused service datagram
