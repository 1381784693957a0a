-- What the links of a rehearsal tell.
use Rattle.std.specs.Prelude.{ℕ, Option, None}
use Rattle.wm_ports.specs.LinkMemory.{link_told}
use Rattle.wm_ports.specs.Linking.{LinkTold}
use Rattle.wm_serve.specs.declared.rehearsed.RehearsedLink.{RehearsedLink}
use Rattle.wm_serve.specs.declared.rehearsed.RehearsedLink.TheVariants as link

-- a modelled client has no faults
abbrev pub faults_of : RehearsedLink → ℕ
faults_of (link.Caller messages) = messages.faults
faults_of (link.Client client) = 0

-- a modelled client tells nothing
abbrev pub told_of : RehearsedLink → Option LinkTold
told_of (link.Caller messages) = link_told messages
told_of (link.Client client) = None
