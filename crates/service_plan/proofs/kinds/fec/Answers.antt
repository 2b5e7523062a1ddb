use Rattle.std.proofs.Common.{◌≡◌, ℕ, Bool, List, ◌∷◌, ◌++◌, map, codes, Option, None, refl}
use Rattle.std.proofs.lemmas.Result.{err_from_is_err_and}
use Rattle.toml.specs.Data.{Members}
use Rattle.toml.specs.View.{table_view}
use Rattle.settings_spec.specs.Keys.{SettingsFault, KeyRule, optional, range, row_count, key_fault, keys_fault, unknown_fault}
use Rattle.settings_spec.specs.Settings.{name_key, kind_key, pid_key, mode_key, rules_key, last_keys, is_sliced_mode, fec_fault}
use Rattle.service_plan.specs.Services.{IsServiceOf, mode_keys, window_keys_of}
use Rattle.service_plan.proofs.KeyLemmas.{first_here, first_later, keys_here, keys_later, between_both}
use Rattle.service_plan.proofs.ServiceLemmas.{answers_as, ended_is_service, kind_of_fec, filter_of_fec, sliced_said, mode_later}
use Rattle.service_plan.proofs.kinds.fec.Goals as goal

-- where nothing is wrong up to the mode, what is wrong with the keys after it is wrong with the service
after_mode : (m : Members) (sliced : Bool) (names : List (List ℕ)) (f : Option SettingsFault) → key_fault mode_key m ≡ None → is_sliced_mode m ≡ sliced
    → names ≡ map (λ (rule : KeyRule). rule.name) (mode_keys sliced) → unknown_fault names m ≡ None → key_fault name_key m ≡ None → key_fault kind_key m ≡ None → key_fault pid_key m ≡ None
    → keys_fault (optional (codes "rows") row_count ∷ optional (codes "parity") (range 1 64) ∷ (window_keys_of sliced ++ rules_key ∷ last_keys)) m ≡ f → fec_fault m ≡ f
after_mode m sliced names f none mode are known name kind pid later =
    mode_later m sliced f none mode (first_later _ _ _ (rw are at known) (first_later _ _ _ name (first_later _ _ _ kind (first_later _ _ _ pid (first_later _ _ _ none later)))))

pub returns-in_err-rows : goal.returns-in_err-rows
returns-in_err-rows c =
    let m : Members = table_view c.args.table.now in
    let sliced : Bool = c.eq-sliced.result in
    let word = c.in_ok-word.ensures.read in
    let failed = err_from_is_err_and c.from_residual-in_err-rows.result c.from_residual-in_err-rows.ensures.1 in
    record {
      read = rw (failed.1, failed.2) (after_mode m sliced _ _ word.0 (sliced_said m _ sliced word.1 c.eq-sliced.ensures) c.fec_keys.ensures c.in_ok-refuse_unknown.ensures.read.0
          c.in_ok-name.ensures.read.0 c.requires.kind c.in_ok-pid.ensures.read.0
          (first_here _ _ _ c.in_err-rows.ensures.read));
    }

pub returns-in_err-parity : goal.returns-in_err-parity
returns-in_err-parity c =
    let m : Members = table_view c.args.table.now in
    let sliced : Bool = c.eq-sliced.result in
    let word = c.in_ok-word.ensures.read in
    let failed = err_from_is_err_and c.from_residual-in_err-parity.result c.from_residual-in_err-parity.ensures.1 in
    record {
      read = rw (failed.1, failed.2) (after_mode m sliced _ _ word.0 (sliced_said m _ sliced word.1 c.eq-sliced.ensures) c.fec_keys.ensures c.in_ok-refuse_unknown.ensures.read.0
          c.in_ok-name.ensures.read.0 c.requires.kind c.in_ok-pid.ensures.read.0
          (first_later _ _ _ c.in_ok-rows.ensures.read.0 (first_here _ _ _ c.in_err-parity.ensures.read)));
    }

pub returns-in_err-window : goal.returns-in_err-window
returns-in_err-window c =
    let m : Members = table_view c.args.table.now in
    let sliced : Bool = c.eq-sliced.result in
    let word = c.in_ok-word.ensures.read in
    let failed = err_from_is_err_and c.from_residual-in_err-window.result c.from_residual-in_err-window.ensures.1 in
    record {
      read = rw (failed.1, failed.2) (after_mode m sliced _ _ word.0 (sliced_said m _ sliced word.1 c.eq-sliced.ensures) c.fec_keys.ensures c.in_ok-refuse_unknown.ensures.read.0
          c.in_ok-name.ensures.read.0 c.requires.kind c.in_ok-pid.ensures.read.0
          (first_later _ _ _ c.in_ok-rows.ensures.read.0 (first_later _ _ _ c.in_ok-parity.ensures.read.0
          (keys_here (window_keys_of sliced) (rules_key ∷ last_keys) m _ c.in_err-window.ensures.read))));
    }

pub returns-in_err-items : goal.returns-in_err-items
returns-in_err-items c =
    let m : Members = table_view c.args.table.now in
    let sliced : Bool = c.eq-sliced.result in
    let word = c.in_ok-word.ensures.read in
    let failed = err_from_is_err_and c.from_residual-in_err-items.result c.from_residual-in_err-items.ensures.1 in
    record {
      read = rw (failed.1, failed.2) (after_mode m sliced _ _ word.0 (sliced_said m _ sliced word.1 c.eq-sliced.ensures) c.fec_keys.ensures c.in_ok-refuse_unknown.ensures.read.0
          c.in_ok-name.ensures.read.0 c.requires.kind c.in_ok-pid.ensures.read.0
          (first_later _ _ _ c.in_ok-rows.ensures.read.0 (first_later _ _ _ c.in_ok-parity.ensures.read.0
          (keys_later (window_keys_of sliced) (rules_key ∷ last_keys) m _ c.in_ok-window.ensures.read.0 (first_here _ _ _ c.in_err-items.ensures.read)))));
    }

pub returns : goal.returns
returns c =
    let m : Members = table_view c.args.table.now in
    let sliced : Bool = c.eq-sliced.result in
    let word = c.in_ok-word.ensures.read in
    let mode = sliced_said m _ sliced word.1 c.eq-sliced.ensures in
    let name = c.in_ok-name.ensures in
    let pid = c.in_ok-pid.ensures in
    let rows = c.in_ok-rows.ensures in
    let parity = c.in_ok-parity.ensures in
    let window = c.in_ok-window.ensures.read in
    let items = c.in_ok-items.ensures.read in
    record {
      read = answers_as c.finish.result _ _ _ (IsServiceOf m c.args.place)
          (after_mode m sliced _ (keys_fault last_keys m) word.0 mode c.fec_keys.ensures c.in_ok-refuse_unknown.ensures.read.0 name.read.0 c.requires.kind pid.read.0
          (first_later _ _ _ rows.read.0 (first_later _ _ _ parity.read.0
          (keys_later (window_keys_of sliced) (rules_key ∷ last_keys) m (keys_fault last_keys m) window.0 (first_later _ _ _ items.0 refl)))))
          (λ draft ended. ended_is_service _ _ _ _ _ _ draft ended name.read.1
          (kind_of_fec m _ _ _ sliced _ c.requires.word mode pid.read.1 rows.read.1 parity.read.1 window.1.0) items.1
          (filter_of_fec _ _ c.requires.word c.new-filter.ensures.written) name.valid
          (rw (between_both 32 8190 _ pid.within.0 pid.within.1, rows.within, between_both 1 64 _ parity.within.0 parity.within.1) window.1.1) refl refl)
          c.finish.ensures.read;
    }
