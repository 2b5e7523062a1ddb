-- The keys of a table against those that it may have.
use Rattle.std.proofs.Common.{◌≡◌, ℕ, Bool, List, [], ◌∷◌, map, Some, None, String, Global, string_bytes, bytes_eq, if◌then◌else◌, refl}
use Rattle.std.specs.List.{list_all, list_any}
use Rattle.std.specs.Map.{keys_of as map_keys}
use Rattle.toml.specs.View.{members_view}
use Rattle.toml.specs.declared.value.Value.{Value}
use Rattle.settings_spec.specs.Keys.{unknown_key, keys_of, are_known, unknown_fault}
use Rattle.settings_keys.specs.Keys.{key_text}
use Rattle.settings_keys.specs.declared.key.Key.{Key}

any_of_keys : (name : List ℕ) (known : List Key) → list_any (bytes_eq name) (map key_text known) ≡ list_any (λ key. bytes_eq name (key_text key)) known
any_of_keys name [] = refl
any_of_keys name (key ∷ known) = rw (any_of_keys name known)

known_keys : (known : List Key) (es : List (String Global × Value)) → are_known (map key_text known) (keys_of (members_view es))
    ≡ list_all (λ name. list_any (λ key. bytes_eq (string_bytes name) (key_text key)) known) (map_keys es)
known_keys known [] = refl
known_keys known (e ∷ es) = rw (any_of_keys (string_bytes e.0) known, known_keys known es)

pub unknown_tested : (known : List Key) (es : List (String Global × Value)) (b : Bool)
    → b ≡ list_all (λ name. list_any (λ key. bytes_eq (string_bytes name) (key_text key)) known) (map_keys es)
    → unknown_fault (map key_text known) (members_view es) ≡ (if b then None else Some unknown_key)
unfolding unknown_fault
unknown_tested known es b tested = rw (known_keys known es, ← tested)
