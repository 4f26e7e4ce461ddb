-- The bytes of an answer tell by the first of them what it is, and by a byte `=` that it replies.
use Rattle.std.proofs.Common.{◌≡◌, ℕ, ◌+◌, Bool, true, false, List, [], ◌∷◌, ◌++◌, refl, sym, ap, ◌∙◌, append_assoc, eqb, Option, Some, None}
use Rattle.std.specs.Prelude.{◌&&◌, codes, decimal, is_some, nat_eq, not}
use Rattle.std.specs.List.{list_any, starts_with}
use Rattle.board_cell_model.specs.declared.access.Access.{Access}
use Rattle.board_cell_model.specs.declared.access.Access.TheVariants as access
use Rattle.board_model.specs.declared.answer.Answer.{Answer}
use Rattle.board_model.specs.declared.answer.Answer.TheVariants as answer
use Rattle.board_model.specs.declared.answer.Reply.{Reply}
use Rattle.board_model.specs.AnswerGrammar.{IsAccess, IsAnswer, access_text, answer_line, place_text, told_text}
use Rattle.board_model.specs.LineGrammar.{IsNumber}
use Rattle.script_grammar.proofs.ReaderLemmas.{both}
use Rattle.script_grammar.proofs.SplitLemmas.{IsFree, free_append, free_number, lacks}
use Rattle.script_generator.specs.declared.summary.Counts.{Counts}
use Rattle.script_generator.specs.Counting.{OfAnswer, counted_with, is_last_read, is_last_write, one_more}

-- the bytes begin so
abbrev pub begins : List ℕ → List ℕ → Bool
begins bytes front = starts_with nat_eq bytes front

-- ---- the byte `=`

-- it stands somewhere
abbrev pub replies : List ℕ → Bool
replies bytes = list_any (λ y. nat_eq y 61) bytes

past : (text rest : List ℕ) → IsFree 61 text → replies (text ++ rest) ≡ replies rest
past [] rest h = refl
past (b ∷ bs) rest h =
    let s = both (not (eqb b 61)) (lacks 61 bs) h in
    at (eqb b 61) refl s.0 (past bs rest s.1)
  where
    at : (v : Bool) → eqb b 61 ≡ v → not v ≡ true → replies (bs ++ rest) ≡ replies rest → replies ((b ∷ bs) ++ rest) ≡ replies rest
    at true e h q = absurd cc
    at false e h q = rw e q

place_free : (b w v : ℕ) → IsNumber b → IsNumber w → IsNumber v → IsFree 61 (place_text b w v)
place_free b w v hb hw hv =
    free_append 61 (decimal b) (codes ":" ++ (decimal w ++ (codes " " ++ decimal v))) (free_number 61 refl b hb)
    (free_append 61 (decimal w) (codes " " ++ decimal v) (free_number 61 refl w hw) (free_number 61 refl v hv))

access_free : (a : Access) → IsAccess a → IsFree 61 (access_text a)
access_free access.Table h = refl
access_free (access.Read b w v) h = place_free b w v h.0 h.1 h.2
access_free (access.Write b w v) h = place_free b w v h.0 h.1 h.2

told_replies : (told : Option Reply) → replies (told_text told ++ 10 ∷ []) ≡ is_some told
told_replies None = refl
told_replies (Some r) = refl

step_replies : (a : Access) (told : Option Reply) → IsAccess a → replies (answer_line (answer.Step a told)) ≡ is_some told
step_replies a told h =
    ap (λ (x : List ℕ). replies x) (append_assoc (access_text a) (told_text told) (10 ∷ []))
    ∙ (past (access_text a) (told_text told ++ 10 ∷ []) (access_free a h) ∙ told_replies told)

-- ---- last accesses

write_told : (b w v : ℕ) (told : Option Reply) → is_some told ≡ is_last_write (answer.Step (access.Write b w v) told)
write_told b w v None = refl
write_told b w v (Some r) = refl

read_told : (b w v : ℕ) (told : Option Reply) → is_some told ≡ is_last_read (answer.Step (access.Read b w v) told)
read_told b w v None = refl
read_told b w v (Some r) = refl

last_write : (a : Answer) → IsAnswer a → (begins (answer_line a) (codes "wr") && replies (answer_line a)) ≡ is_last_write a
last_write answer.Begun h = refl
last_write (answer.Refused why) h = refl
last_write (answer.Step access.Table told) h = refl
last_write (answer.Step (access.Read b w v) told) h = refl
last_write (answer.Step (access.Write b w v) told) h = step_replies (access.Write b w v) told h.0 ∙ write_told b w v told
last_write answer.Gone h = refl
last_write (answer.Words ws) h = refl

last_read : (a : Answer) → IsAnswer a → (begins (answer_line a) (codes "rea") && replies (answer_line a)) ≡ is_last_read a
last_read answer.Begun h = refl
last_read (answer.Refused why) h = refl
last_read (answer.Step access.Table told) h = refl
last_read (answer.Step (access.Read b w v) told) h = step_replies (access.Read b w v) told h.0 ∙ read_told b w v told
last_read (answer.Step (access.Write b w v) told) h = refl
last_read answer.Gone h = refl
last_read (answer.Words ws) h = refl

-- ---- the bytes of an answer

-- counts that grew by an answer
abbrev make : ℕ → ℕ → ℕ → ℕ → ℕ → Counts
make lines refused steps updates gets = record { lines = lines; refused = refused; steps = steps; updates = updates; gets = gets }

-- what begins an answer begins the bytes
begins_so : (bytes line front : List ℕ) (told : Bool) (v : Bool) → bytes ≡ line → told ≡ v → told ≡ begins bytes front → begins line front ≡ v
begins_so bytes line front told v e t f = ap (λ (x : List ℕ). begins x front) (sym e) ∙ (sym f ∙ t)

read_only : (a : Answer) (old : Counts) → begins (answer_line a) (codes "rea") ≡ true → make (old.lines + 1) old.refused (old.steps + 1) old.updates (one_more old.gets (is_last_read a)) ≡ counted_with old a
read_only answer.Begun old h = absurd cc
read_only (answer.Refused why) old h = absurd cc
read_only (answer.Step access.Table told) old h = absurd cc
read_only (answer.Step (access.Read b w v) told) old h = refl
read_only (answer.Step (access.Write b w v) told) old h = absurd cc
read_only answer.Gone old h = absurd cc
read_only (answer.Words ws) old h = absurd cc

write_only : (a : Answer) (old : Counts) → begins (answer_line a) (codes "wr") ≡ true → make (old.lines + 1) old.refused (old.steps + 1) (one_more old.updates (is_last_write a)) old.gets ≡ counted_with old a
write_only answer.Begun old h = absurd cc
write_only (answer.Refused why) old h = absurd cc
write_only (answer.Step access.Table told) old h = absurd cc
write_only (answer.Step (access.Read b w v) told) old h = absurd cc
write_only (answer.Step (access.Write b w v) told) old h = refl
write_only answer.Gone old h = absurd cc
write_only (answer.Words ws) old h = absurd cc

table_only : (a : Answer) (old : Counts) → begins (answer_line a) (codes "t") ≡ true → make (old.lines + 1) old.refused (old.steps + 1) old.updates old.gets ≡ counted_with old a
table_only answer.Begun old h = absurd cc
table_only (answer.Refused why) old h = absurd cc
table_only (answer.Step access.Table told) old h = refl
table_only (answer.Step (access.Read b w v) told) old h = absurd cc
table_only (answer.Step (access.Write b w v) told) old h = absurd cc
table_only answer.Gone old h = absurd cc
table_only (answer.Words ws) old h = absurd cc

refused_only : (a : Answer) (old : Counts) → begins (answer_line a) (codes "ref") ≡ true → make (old.lines + 1) (old.refused + 1) old.steps old.updates old.gets ≡ counted_with old a
refused_only answer.Begun old h = absurd cc
refused_only (answer.Refused why) old h = refl
refused_only (answer.Step access.Table told) old h = absurd cc
refused_only (answer.Step (access.Read b w v) told) old h = absurd cc
refused_only (answer.Step (access.Write b w v) told) old h = absurd cc
refused_only answer.Gone old h = absurd cc
refused_only (answer.Words ws) old h = absurd cc

other_only : (a : Answer) (old : Counts) → begins (answer_line a) (codes "rea") ≡ false → begins (answer_line a) (codes "wr") ≡ false → begins (answer_line a) (codes "t") ≡ false → begins (answer_line a) (codes "ref") ≡ false
    → make (old.lines + 1) old.refused old.steps old.updates old.gets ≡ counted_with old a
other_only answer.Begun old r w t f = refl
other_only (answer.Refused why) old r w t f = absurd cc
other_only (answer.Step access.Table told) old r w t f = absurd cc
other_only (answer.Step (access.Read b n v) told) old r w t f = absurd cc
other_only (answer.Step (access.Write b n v) told) old r w t f = absurd cc
other_only answer.Gone old r w t f = refl
other_only (answer.Words ws) old r w t f = refl

-- whether the read that an answer tells is the last of its call
last_read_told : (bytes : List ℕ) (a : Answer) (reply : Bool) → IsAnswer a → bytes ≡ answer_line a → begins (answer_line a) (codes "rea") ≡ true → reply ≡ replies bytes → reply ≡ is_last_read a
last_read_told bytes a reply h e b r = r ∙ (ap (λ (x : List ℕ). replies x) e ∙ (ap (λ (v : Bool). v && replies (answer_line a)) (sym b) ∙ last_read a h))

last_write_told : (bytes : List ℕ) (a : Answer) (reply : Bool) → IsAnswer a → bytes ≡ answer_line a → begins (answer_line a) (codes "wr") ≡ true → reply ≡ replies bytes → reply ≡ is_last_write a
last_write_told bytes a reply h e b r = r ∙ (ap (λ (x : List ℕ). replies x) e ∙ (ap (λ (v : Bool). v && replies (answer_line a)) (sym b) ∙ last_write a h))

module _ (bytes : List ℕ) (old : Counts) where
  pub read_counted : (told reply : Bool) (gets : ℕ) → told ≡ true → told ≡ begins bytes (codes "rea") → reply ≡ replies bytes → gets ≡ one_more old.gets reply
      → OfAnswer bytes (λ a. make (old.lines + 1) old.refused (old.steps + 1) old.updates gets ≡ counted_with old a)
  read_counted told reply gets t f r g = λ a h e.
      let b = begins_so bytes (answer_line a) (codes "rea") told true e t f in
      ap (λ (n : ℕ). make (old.lines + 1) old.refused (old.steps + 1) old.updates n) (g ∙ ap (λ (v : Bool). one_more old.gets v) (last_read_told bytes a reply h e b r)) ∙ read_only a old b

  pub write_counted : (told reply : Bool) (updates : ℕ) → told ≡ true → told ≡ begins bytes (codes "wr") → reply ≡ replies bytes → updates ≡ one_more old.updates reply
      → OfAnswer bytes (λ a. make (old.lines + 1) old.refused (old.steps + 1) updates old.gets ≡ counted_with old a)
  write_counted told reply updates t f r g = λ a h e.
      let b = begins_so bytes (answer_line a) (codes "wr") told true e t f in
      ap (λ (n : ℕ). make (old.lines + 1) old.refused (old.steps + 1) n old.gets) (g ∙ ap (λ (v : Bool). one_more old.updates v) (last_write_told bytes a reply h e b r)) ∙ write_only a old b

  pub table_counted : (told : Bool) → told ≡ true → told ≡ begins bytes (codes "t") → OfAnswer bytes (λ a. make (old.lines + 1) old.refused (old.steps + 1) old.updates old.gets ≡ counted_with old a)
  table_counted told t f = λ a h e. table_only a old (begins_so bytes (answer_line a) (codes "t") told true e t f)

  pub refused_counted : (told : Bool) → told ≡ true → told ≡ begins bytes (codes "ref") → OfAnswer bytes (λ a. make (old.lines + 1) (old.refused + 1) old.steps old.updates old.gets ≡ counted_with old a)
  refused_counted told t f = λ a h e. refused_only a old (begins_so bytes (answer_line a) (codes "ref") told true e t f)

  pub other_counted : (read write table refused : Bool) → read ≡ false → read ≡ begins bytes (codes "rea") → write ≡ false → write ≡ begins bytes (codes "wr") → table ≡ false → table ≡ begins bytes (codes "t") → refused ≡ false → refused ≡ begins bytes (codes "ref")
      → OfAnswer bytes (λ a. make (old.lines + 1) old.refused old.steps old.updates old.gets ≡ counted_with old a)
  other_counted read write table refused tr fr tw fw tt ft tf ff = λ a h e.
      other_only a old (begins_so bytes (answer_line a) (codes "rea") read false e tr fr) (begins_so bytes (answer_line a) (codes "wr") write false e tw fw)
      (begins_so bytes (answer_line a) (codes "t") table false e tt ft) (begins_so bytes (answer_line a) (codes "ref") refused false e tf ff)
