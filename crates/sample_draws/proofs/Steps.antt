-- One draw more, and one datagram more.
use Rattle.std.proofs.Common.{◌≡◌, ℕ, suc, ◌+◌, ◌*◌, ◌<◌, List, [], ◌∷◌, ◌++◌, length, Some, refl, sym, ap, ap₂, subst, ◌∙◌, arith}
use Rattle.std.proofs.lemmas.List.FromFn.{length-map-range_with_len, map-range_with_len_more}
use Rattle.plan_spec.specs.Given.{sample_plan}
use Rattle.plan_spec.specs.Offered.{Records}
use Rattle.datagram_routing.specs.Offering.{IsOffered, HasRoom}
use Rattle.datagram_routing.specs.declared.offered.Offered.{Offered}
use Rattle.sample_spec.specs.Draws.{next_state, state_after}
use Rattle.sample_spec.specs.Datagrams.{datagram_count, service_drawn, length_drawn, head_of, bytes_after_head, datagram_drawn, sample_records}
use Rattle.sample_draws.specs.First.{first_records}

pub none_drawn : (number : ℕ) → state_after number 0 ≡ number
unfolding state_after
none_drawn number = refl

one_drawn : (number count : ℕ) → state_after number (suc count) ≡ next_state (state_after number count)
unfolding state_after
one_drawn number count = refl

-- a step after so many draws
pub after_one : (number count old new : ℕ) → new ≡ next_state old → old ≡ state_after number count → new ≡ state_after number (count + 1)
after_one number count old new step was =
    let more : suc count ≡ count + 1 = omega arith in
    step ∙ (ap next_state was ∙ (sym (one_drawn number count) ∙ ap (state_after number) more))

-- so many records were offered, so there is room for one more
pub has_room : (number i : ℕ) (offered : Offered) → i < 4000 → IsOffered sample_plan (first_records number i) offered → HasRoom sample_plan offered
has_room number i offered early stands =
    let long : length (first_records number i) ≡ i = length-map-range_with_len (λ k. Some (datagram_drawn number k)) 0 i in
    record { records = first_records number i; stands = stands; few = omega (arith, early, long) }

-- the records with the datagram that was drawn next
pub one_more : (number i long service : ℕ) → long ≡ length_drawn number i → service ≡ service_drawn number i
    → first_records number i ++ Some (head_of long service ++ bytes_after_head i long) ∷ [] ≡ first_records number (i + 1)
one_more number i long service long_is service_is =
    let same : head_of long service ++ bytes_after_head i long ≡ datagram_drawn number i =
    ap₂ (λ (n s : ℕ). head_of n s ++ bytes_after_head i n) long_is service_is in
    ap (λ (d : List ℕ). first_records number i ++ Some d ∷ []) same
    ∙ sym (map-range_with_len_more (λ k. Some (datagram_drawn number k)) 0 i i (omega arith))

pub next_holds : (number i : ℕ) (P : Records → Type 0) (long service : ℕ)
    → P (first_records number i ++ Some (head_of long service ++ bytes_after_head i long) ∷ [])
    → long ≡ length_drawn number i → service ≡ service_drawn number i → P (first_records number (i + 1))
next_holds number i P long service holds long_is service_is = subst P (one_more number i long service long_is service_is) holds

-- what holds of bytes holds of the wanted ones, which they are
pub of_wanted : (P : List ℕ → Type 0) (bytes wanted : List ℕ) → P bytes → bytes ≡ wanted → P wanted
of_wanted P bytes wanted holds same = subst P same holds

-- all datagrams were offered, and all their draws made
pub all_offered : (number old i : ℕ) (offered : Offered) → old ≡ state_after number 0 → i ≡ datagram_count
    → IsOffered sample_plan (first_records old i) offered → IsOffered sample_plan (sample_records number) offered
all_offered number old i offered was all stands =
    subst (λ (n : ℕ). IsOffered sample_plan (first_records n datagram_count) offered) (was ∙ none_drawn number)
    (subst (λ (n : ℕ). IsOffered sample_plan (first_records old n) offered) all stands)

pub all_drawn : (number old new i : ℕ) → old ≡ state_after number 0 → i ≡ datagram_count → new ≡ state_after old (2 * i)
    → new ≡ state_after number (2 * datagram_count)
all_drawn number old new i was all drawn =
    drawn ∙ (ap (λ (n : ℕ). state_after n (2 * i)) (was ∙ none_drawn number) ∙ ap (λ (n : ℕ). state_after number (2 * n)) all)
