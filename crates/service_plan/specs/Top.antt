-- The values of the top table of settings.
use Rattle.std.specs.Prelude.{◌≡◌, true, codes}
use Rattle.toml.specs.Data.{Members}
use Rattle.plan_spec.specs.Checks.{is_between}
use Rattle.settings_spec.specs.Keys.{text_or, number_or}
use Rattle.settings_spec.specs.Settings.{recording_of, says_baseband}
use Rattle.plan.specs.Parts.{form_of}
use Rattle.service_plan.specs.declared.top.TopValues.{TopValues}

pub record AreTopValues (top : Members) (values : TopValues) : Type 0 where
  pub baseband : values.baseband ≡ says_baseband top
  pub recording : form_of values.recording ≡ recording_of (text_or (codes "plain") (codes "recording") top)
  pub packet_rate : values.packet_rate ≡ number_or 10000 (codes "packet_rate") top
  pub cycle : values.cycle ≡ number_or 20000 (codes "cycle") top
  pub frame_bytes : values.frame_bytes ≡ number_or 2000 (codes "frame_bytes") top
  pub rate_in_range : is_between 1 1000000 values.packet_rate ≡ true
  pub cycle_in_range : is_between 100 1000000 values.cycle ≡ true
  pub bytes_in_range : is_between 300 7274 values.frame_bytes ≡ true
