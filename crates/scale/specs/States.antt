-- What a scale remembers, with a part of it changed.
use Rattle.std.specs.Prelude.{Bool, false, ℤ, None, Option}
use Rattle.fault.specs.declared.faults.Fault.{Fault}
use Rattle.scale.specs.declared.settings.Settings.{Settings}
use Rattle.scale.specs.declared.state.State.{State}
use Rattle.scale.specs.declared.state.Ticket.{Ticket}
use Rattle.scale.specs.Settings.{factory, with_loads, with_password}
use Rattle.command.specs.declared.texts.Text.{Text}

-- a new scale: the factory settings in force and stored, and all else as after a restart
abbrev pub fresh : State
fresh = record { force = factory; stored = factory; pending = None; opened = false; held = None; memory = None }

abbrev pub with_force : State → Settings → State
with_force s x = record { force = x; stored = s.stored; pending = s.pending; opened = s.opened; held = s.held; memory = s.memory }

abbrev pub with_stored : State → Settings → State
with_stored s x = record { force = s.force; stored = x; pending = s.pending; opened = s.opened; held = s.held; memory = s.memory }

abbrev pub with_pending : State → Option ℤ → State
with_pending s x = record { force = s.force; stored = s.stored; pending = x; opened = s.opened; held = s.held; memory = s.memory }

abbrev pub with_opened : State → Bool → State
with_opened s x = record { force = s.force; stored = s.stored; pending = s.pending; opened = x; held = s.held; memory = s.memory }

abbrev pub with_held : State → Option Ticket → State
with_held s x = record { force = s.force; stored = s.stored; pending = s.pending; opened = s.opened; held = x; memory = s.memory }

abbrev pub with_memory : State → Option Fault → State
with_memory s x = record { force = s.force; stored = s.stored; pending = s.pending; opened = s.opened; held = s.held; memory = x }

-- a characteristic in force and stored at once; no dead load waits any more
abbrev pub calibrated : State → ℤ → ℤ → State
calibrated s d f = record { force = with_loads s.force d f; stored = with_loads s.stored d f; pending = None; opened = s.opened; held = s.held; memory = s.memory }

-- a password in force and stored at once, and the scale closed
abbrev pub relocked : State → Text → State
relocked s t = record { force = with_password s.force t; stored = with_password s.stored t; pending = s.pending; opened = false; held = s.held; memory = s.memory }

-- the factory settings in force and stored; no dead load waits any more
abbrev pub defaulted : State → State
defaulted s = record { force = factory; stored = factory; pending = None; opened = s.opened; held = s.held; memory = s.memory }

-- a restart: the stored settings in force, and all else forgotten
abbrev pub restarted : State → State
restarted s = record { force = s.stored; stored = s.stored; pending = None; opened = false; held = None; memory = None }
