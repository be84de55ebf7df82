-- What a load weighs under the settings of a scale.
use Rattle.std.specs.Prelude.{Bool, true, ℤ, ◌-ℤ◌}
use Rattle.value.specs.Fitting.{fits}
use Rattle.value.specs.Output.{shape, full_shown}
use Rattle.value.specs.Scaled.{scaled}
use Rattle.value.specs.Status.{status_byte}
use Rattle.value.specs.declared.block.Measured.{Measured}
use Rattle.value.specs.declared.layout.Layout.TheVariants.{Decimal}
use Rattle.value.specs.declared.output.OutputFormat.{OutputFormat}
use Rattle.scale.specs.declared.display.Display.{Display}
use Rattle.scale.specs.declared.display.Display.TheVariants.{Net, Gross}
use Rattle.scale.specs.declared.measuring.Measurement.{Measurement}
use Rattle.scale.specs.declared.settings.Settings.{Settings}
use Rattle.scale.specs.declared.state.Ticket.{Ticket}
use Rattle.scale.specs.Choices.{step_value}

-- what a load shows in a format: scaled by nominal value over span, rounded once to the step
abbrev pub shown_as : Settings → OutputFormat → ℤ → ℤ
shown_as s f num = scaled num (full_shown f s.nominal) (s.full -ℤ s.dead) (step_value s.step)

-- the gross weight: the load less the dead load; the net weight: less the tare too
abbrev pub gross_shown : Settings → ℤ → ℤ
gross_shown s load = shown_as s s.format (load -ℤ s.dead)

abbrev pub net_shown : Settings → ℤ → ℤ
net_shown s load = shown_as s s.format ((load -ℤ s.dead) -ℤ s.tare)

abbrev pub of_both : {A : Type 0} → Display → A → A → A
of_both Net net gross = net
of_both Gross net gross = gross

abbrev pub fits_in : Settings → ℤ → Bool
fits_in s v = fits (shape s.format.layout).limits s.nominal v

-- a weighing: net or gross, with the status of both
abbrev pub weighed : Settings → Measurement → Measured
weighed s m = record {
  value = of_both s.display (net_shown s m.load) (gross_shown s m.load);
  status = status_byte (fits_in s (net_shown s m.load)) (fits_in s (gross_shown s m.load)) m.mark.overdriven;
}

-- format 3: decimal, with CR LF
abbrev pub plain_decimal : OutputFormat
plain_decimal = record { layout = Decimal; ended = true }

-- the tare in the place of the load
abbrev pub tare_ticket : Settings → Ticket
tare_ticket s = record { measured = record { value = shown_as s plain_decimal s.tare; status = 0 }; format = plain_decimal; nominal = s.nominal }
