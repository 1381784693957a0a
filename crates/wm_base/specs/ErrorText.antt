-- The words of limits and the texts of refused commands.
use Rattle.std.specs.Prelude.{ℕ, List, codes}
use Rattle.wm_base.specs.declared.errors.ErrorText.{ErrorText}
use Rattle.wm_base.specs.declared.errors.ErrorText.TheVariants as errors
use Rattle.wm_base.specs.declared.errors.Limit.{Limit}
use Rattle.wm_base.specs.declared.errors.Limit.TheVariants as limits

-- the limit's word in answer lines
abbrev pub word_of : Limit → List ℕ
word_of limits.Containers = codes "containers"
word_of limits.Outputs = codes "outputs"
word_of limits.Workspaces = codes "workspaces"
word_of limits.Children = codes "children"
word_of limits.Depth = codes "depth"
word_of limits.Marks = codes "marks"
word_of limits.Ids = codes "ids"

-- the text that a reply gives
abbrev pub text_of : ErrorText → List ℕ
text_of errors.NoMatch = codes "no container matches"
text_of errors.NotWindow = codes "only a window can do this"
text_of errors.NotTiled = codes "only a tiled container can do this"
text_of errors.NotFloating = codes "only a floating window can do this"
text_of errors.NoNeighbour = codes "nothing in that direction"
text_of errors.NoOutput = codes "no such output"
text_of errors.NoWorkspace = codes "no such workspace"
text_of errors.NoMark = codes "no such mark"
text_of errors.NoContainer = codes "no such container"
text_of errors.NoMode = codes "no such mode"
text_of errors.NoLayout = codes "no such layout"
text_of errors.NameTaken = codes "that name is taken"
text_of errors.AtWorkspace = codes "the focus is a workspace"
text_of errors.ManyMatch = codes "more than one container matches"
text_of errors.NameReserved = codes "that name is reserved"
text_of errors.NoPrevious = codes "no workspace before this one"
text_of errors.CannotResize = codes "cannot resize"
text_of errors.OutOfRange = codes "out of range"
text_of errors.SameContainer = codes "one container is part of the other"
text_of errors.FullContainers = codes "too many containers"
text_of errors.FullWorkspaces = codes "too many workspaces"
text_of errors.FullChildren = codes "too many children"
text_of errors.FullDepth = codes "too deep"
text_of errors.FullMarks = codes "too many marks"
text_of errors.FullIds = codes "no ids left"
text_of errors.ScratchEmpty = codes "the scratchpad is empty"
text_of errors.NoCriteria = codes "focus needs criteria"
