-- Bytes spell at most one line of a script whose parties can be driven.
use Rattle.std.proofs.Common.{◌≡◌, ℕ, false, List, [], ◌∷◌, refl, sym, ap, subst, ◌∙◌}
use Rattle.std.specs.Prelude.{codes}
use Rattle.std.specs.Str.{bytes_eq}
use Rattle.script_model.specs.declared.line.ScriptLine.{ScriptLine}
use Rattle.script_model.specs.ScriptGrammar.{SpellsLine}
use Rattle.script_grammar.proofs.ScriptLineLemmas.{one_line}
use Rattle.script_exchanges.specs.declared.line.Drive.{Drive}
use Rattle.script_exchanges.specs.declared.line.DriveLine.{DriveLine}
use Rattle.script_exchanges.specs.declared.line.DriveLine.TheVariants.{Script, Start, Turn}
use Rattle.script_exchanges.specs.DriveGrammar.{SpellsDrive, start_word}
use Rattle.script_feed.proofs.DriveLines.{head_is, no_script, rest_is, split_drive, start_is_no_script, start_is_no_turn}

plain : (d : Drive) (bytes : List ℕ) (l : ScriptLine) → SpellsDrive d bytes (Script l) → SpellsLine bytes l
plain d bytes l s = record { line = s.line; bytes = s.bytes; short = s.short }

start_no_script : (d : Drive) (bytes party : List ℕ) (things : List (List ℕ)) (l : ScriptLine) → SpellsDrive d bytes (Start party things) → SpellsDrive d bytes (Script l) → ⊥
start_no_script d bytes party things l s t = no_script d bytes (start_word d) (party ∷ things) l (split_drive d bytes (Start party things) s) (start_is_no_script d) t

turn_no_script : (d : Drive) (bytes party : List ℕ) (l : ScriptLine) → SpellsDrive d bytes (Turn party) → SpellsDrive d bytes (Script l) → ⊥
turn_no_script d bytes party l s t = no_script d bytes (codes "turn") (party ∷ []) l (split_drive d bytes (Turn party) s) refl t

start_no_turn : (d : Drive) (bytes party : List ℕ) (things : List (List ℕ)) (q : List ℕ) → SpellsDrive d bytes (Start party things) → SpellsDrive d bytes (Turn q) → ⊥
start_no_turn d bytes party things q s t =
    let e : start_word d ≡ codes "turn" = head_is (start_word d) (codes "turn") (party ∷ things) (q ∷ []) (sym (split_drive d bytes (Start party things) s) ∙ split_drive d bytes (Turn q) t) in
    let same : bytes_eq (codes "turn") (codes "turn") ≡ false = subst (λ (w : List ℕ). bytes_eq w (codes "turn") ≡ false) e (start_is_no_turn d) in
    absurd cc

start_is : (p q : List ℕ) (ps qs : List (List ℕ)) → p ∷ ps ≡ q ∷ qs → Start p ps ≡ Start q qs
start_is p q ps qs e =
    let a : p ≡ q = head_is p q ps qs e in
    let b : ps ≡ qs = rest_is p q ps qs e in
    rw (a, b) refl

pub one_drive_line : (d : Drive) (bytes : List ℕ) (k l : DriveLine) → SpellsDrive d bytes k → SpellsDrive d bytes l → k ≡ l
one_drive_line d bytes (Script k) (Script l) s t = ap Script (one_line bytes k l (plain d bytes k s) (plain d bytes l t))
one_drive_line d bytes (Script k) (Start p ps) s t = absurd (start_no_script d bytes p ps k t s)
one_drive_line d bytes (Script k) (Turn p) s t = absurd (turn_no_script d bytes p k t s)
one_drive_line d bytes (Start p ps) (Script l) s t = absurd (start_no_script d bytes p ps l s t)
one_drive_line d bytes (Start p ps) (Start q qs) s t =
    start_is p q ps qs (rest_is (start_word d) (start_word d) (p ∷ ps) (q ∷ qs) (sym (split_drive d bytes (Start p ps) s) ∙ split_drive d bytes (Start q qs) t))
one_drive_line d bytes (Start p ps) (Turn q) s t = absurd (start_no_turn d bytes p ps q s t)
one_drive_line d bytes (Turn p) (Script l) s t = absurd (turn_no_script d bytes p l s t)
one_drive_line d bytes (Turn p) (Start q qs) s t = absurd (start_no_turn d bytes q qs p t s)
one_drive_line d bytes (Turn p) (Turn q) s t =
    ap Turn (head_is p q [] [] (rest_is (codes "turn") (codes "turn") (p ∷ []) (q ∷ []) (sym (split_drive d bytes (Turn p) s) ∙ split_drive d bytes (Turn q) t)))
