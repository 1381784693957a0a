-- Laws of showing workspaces.
use Rattle.std.specs.Prelude.{◌≡◌, true}
use Rattle.wm_base.specs.declared.ids.ConId.{ConId}
use Rattle.wm_shared.specs.Showing.{showing}
use Rattle.wm_shared.specs.Subject.{is_space}
use Rattle.wm_tree.specs.Sound.{IsSound}
use Rattle.wm_tree.specs.TreeValue.{TreeValue}

-- a workspace that is shown twice is shown once
abbrev pub ShowsOnce : Type 0
ShowsOnce = (w : ConId) (t : TreeValue) → IsSound t → is_space t w ≡ true → showing w (showing w t) ≡ showing w t
