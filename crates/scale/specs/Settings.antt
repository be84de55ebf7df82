-- The settings of a scale, and its factory settings.
use Rattle.std.specs.Prelude.{ℕ, true, ℤ, pos, codes}
use Rattle.command.specs.Texts.{word}
use Rattle.command.specs.declared.texts.Text.{Text}
use Rattle.value.specs.declared.layout.Layout.TheVariants.{DecimalStatus}
use Rattle.value.specs.declared.output.OutputFormat.{OutputFormat}
use Rattle.scale.specs.declared.averaging.Averaging.{Averaging}
use Rattle.scale.specs.declared.averaging.Averaging.TheVariants.{One}
use Rattle.scale.specs.declared.step.Step.{Step}
use Rattle.scale.specs.declared.step.Step.TheVariants.{One as by_one}
use Rattle.scale.specs.declared.display.Display.{Display}
use Rattle.scale.specs.declared.display.Display.TheVariants.{Net, Gross}
use Rattle.scale.specs.declared.settings.Settings.{Settings}

-- format 9 with CR LF, no averaging, no nominal value, step 1, dead load 0, full load 1,000,000 digits, gross, no tare, password AED
abbrev pub factory : Settings
factory = record {
  format = record { layout = DecimalStatus; ended = true };
  averaging = One;
  nominal = 0;
  step = by_one;
  dead = pos 0;
  full = pos 16000000000;
  display = Gross;
  tare = pos 0;
  password = word (codes "AED");
}

-- settings with one of them changed
abbrev pub with_format : Settings → OutputFormat → Settings
with_format s x = record { format = x; averaging = s.averaging; nominal = s.nominal; step = s.step; dead = s.dead; full = s.full; display = s.display; tare = s.tare; password = s.password }

abbrev pub with_averaging : Settings → Averaging → Settings
with_averaging s x = record { format = s.format; averaging = x; nominal = s.nominal; step = s.step; dead = s.dead; full = s.full; display = s.display; tare = s.tare; password = s.password }

abbrev pub with_nominal : Settings → ℕ → Settings
with_nominal s x = record { format = s.format; averaging = s.averaging; nominal = x; step = s.step; dead = s.dead; full = s.full; display = s.display; tare = s.tare; password = s.password }

abbrev pub with_step : Settings → Step → Settings
with_step s x = record { format = s.format; averaging = s.averaging; nominal = s.nominal; step = x; dead = s.dead; full = s.full; display = s.display; tare = s.tare; password = s.password }

abbrev pub with_display : Settings → Display → Settings
with_display s x = record { format = s.format; averaging = s.averaging; nominal = s.nominal; step = s.step; dead = s.dead; full = s.full; display = x; tare = s.tare; password = s.password }

abbrev pub with_password : Settings → Text → Settings
with_password s x = record { format = s.format; averaging = s.averaging; nominal = s.nominal; step = s.step; dead = s.dead; full = s.full; display = s.display; tare = s.tare; password = x }

-- a characteristic: dead load and full load
abbrev pub with_loads : Settings → ℤ → ℤ → Settings
with_loads s d f = record { format = s.format; averaging = s.averaging; nominal = s.nominal; step = s.step; dead = d; full = f; display = s.display; tare = s.tare; password = s.password }

-- a tare, and with it the net weight on display
abbrev pub with_tare : Settings → ℤ → Settings
with_tare s t = record { format = s.format; averaging = s.averaging; nominal = s.nominal; step = s.step; dead = s.dead; full = s.full; display = Net; tare = t; password = s.password }
