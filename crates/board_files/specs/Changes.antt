-- Files in memory as the list of their changes.
use Rattle.std.specs.Prelude.{ℕ, List, [], ◌∷◌, Option, Some, None, ⊤, take}
use Rattle.board_names.specs.Table.{at, putting, without, IsFree}
use Rattle.board_files.specs.Files.{File, Held, Told, new_file, lengthened, finished}
use Rattle.board_files.specs.declared.changes.Change.{Change}
use Rattle.board_files.specs.declared.changes.Change.TheVariants.{Made, Wrote, Finished, Removed}

-- the files with one of them changed, where it is held
abbrev pub altered_by : Held → List ℕ → (File → File) → Option File → Held
altered_by files name change None = files
altered_by files name change (Some file) = putting files name (change file)

abbrev pub altered : Held → List ℕ → (File → File) → Held
altered files name change = altered_by files name change (at files name)

-- the files after a change
abbrev pub applied : Change → Held → Held
applied (Made name) files = putting files name new_file
applied (Wrote name bytes) files = altered files name (lengthened bytes)
applied (Finished name) files = altered files name finished
applied (Removed name) files = without files name

-- after a removal the name is free
abbrev pub FreesName : Change → Held → Type 0
FreesName (Made name) files = ⊤
FreesName (Wrote name bytes) files = ⊤
FreesName (Finished name) files = ⊤
FreesName (Removed name) files = IsFree files name

-- the files after these changes of them
abbrev pub replayed : Held → List Change → Held
replayed files [] = files
replayed files (c ∷ changes) = replayed (applied c files) changes

-- the files after each of these changes of them
abbrev pub moments_from : Held → List Change → List Held
moments_from files [] = []
moments_from files (c ∷ changes) = applied c files ∷ moments_from (applied c files) changes

-- what is told of files that began with none and had these changes
abbrev pub told_after : List Change → Told
told_after changes = record { files = replayed [] changes; moments = moments_from [] changes }

-- the last of these moments, or what stood before them
abbrev pub last_moment : Held → List Held → Held
last_moment files [] = files
last_moment files (now ∷ moments) = last_moment now moments

-- files that began with none, as they stood after so many changes; more than were made gives the last
abbrev pub stopped_at : ℕ → Told → Told
stopped_at count told = record { files = last_moment [] (take count told.moments); moments = take count told.moments }
