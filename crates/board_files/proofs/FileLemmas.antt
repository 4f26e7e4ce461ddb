-- What is told of files after a call on them.
use Rattle.std.proofs.Common.{◌≡◌, ℕ, List, [], ◌∷◌, ◌++◌, refl, sym, ◌∙◌, ap, subst}
use Rattle.std.specs.Prelude.{true, false, not, is_some, Option, Some, None, IsSome}
use Rattle.std.proofs.lemmas.List.{append-nil, append_assoc}
use Rattle.std.proofs.lemmas.List.Elements.{All-nil, All-cons, All-append}
use Rattle.board_names.specs.Table.{at, putting}
use Rattle.board_names.proofs.TableLemmas.{at-putting-other}
use Rattle.board_files.specs.Files.{File, Held, Told, new_file, final_file, lengthened, moved, created, created_by, written, written_by, finalized, finalized_by, AddsMoments, SameOthers}
use Rattle.board_files.specs.Storage.{FromTo}

-- ---- Options

pub free_from : {X : Type 0} (o : Option X) → true ≡ not (is_some o) → o ≡ None
free_from None h = refl
free_from (Some x) h = cc h

pub held_from : {X : Type 0} (o : Option X) → false ≡ not (is_some o) → (x : X) × (o ≡ Some x)
held_from None h = cc h
held_from (Some x) h = (x, refl)

pub some_from : {X : Type 0} (o : Option X) → IsSome o → (x : X) × (o ≡ Some x)
some_from None h = cc h
some_from (Some x) h = (x, refl)

-- ---- from files that are told to files that are told

pub from_to : (says : Told → Told → Type 0) (t u : Told) (new : Option Told) → new ≡ Some u → says t u → FromTo (Some t) new says
from_to says t u new is fact = subst (λ n. FromTo (Some t) n says) (sym is) fact

-- ---- moments

pub AddsMoments-none : (moments : List Held) (says : Held → Type 0) → AddsMoments moments moments says
AddsMoments-none moments says = record { more = []; behind = sym (append-nil moments); each = All-nil says }

pub AddsMoments-one : (moments : List Held) (says : Held → Type 0) (now : Held) → says now → AddsMoments moments (moments ++ now ∷ []) says
AddsMoments-one moments says now fact = record { more = now ∷ []; behind = refl; each = All-cons says now [] fact (All-nil says) }

pub AddsMoments-trans : (before mid now : List Held) (says : Held → Type 0) → AddsMoments before mid says → AddsMoments mid now says → AddsMoments before now says
AddsMoments-trans before mid now says first second = record {
  more = first.more ++ second.more;
  behind = second.behind ∙ ap (λ l. l ++ second.more) first.behind ∙ append_assoc before first.more second.more;
  each = All-append says first.more second.more first.each second.each;
}

pub SameOthers-none : (path : List ℕ) (files : Held) → SameOthers path files files
SameOthers-none path files = λ other differ. refl

pub SameOthers-putting : (path : List ℕ) (files : Held) (file : File) → SameOthers path files (putting files path file)
SameOthers-putting path files file = λ other differ. at-putting-other files path other file differ

pub SameOthers-trans : (path : List ℕ) (before mid now : Held) → SameOthers path before mid → SameOthers path mid now → SameOthers path before now
SameOthers-trans path before mid now first second = λ other differ. second other differ ∙ first other differ

-- ---- calls

pub created-free : (path : List ℕ) (t : Told) → at t.files path ≡ None → created path t ≡ moved t (putting t.files path new_file)
created-free path t free = ap (created_by path t) free

pub created-held : (path : List ℕ) (t : Told) (f : File) → at t.files path ≡ Some f → created path t ≡ t
created-held path t f held = ap (created_by path t) held

pub written-some : (path : List ℕ) (t : Told) (f : File) (b : ℕ) (bytes : List ℕ) → at t.files path ≡ Some f →
    written path (b ∷ bytes) t ≡ moved t (putting t.files path (lengthened (b ∷ bytes) f))
written-some path t f b bytes held = ap (written_by path (b ∷ bytes) t) held

pub written-none : (path : List ℕ) (t : Told) (f : File) → at t.files path ≡ Some f → written path [] t ≡ t
written-none path t f held = ap (written_by path [] t) held

pub finalized-open : (path : List ℕ) (t : Told) (bytes : List ℕ) → at t.files path ≡ Some (record { is_final = false; bytes = bytes }) →
    finalized path t ≡ moved t (putting t.files path (final_file bytes))
finalized-open path t bytes held = ap (finalized_by path t) held
