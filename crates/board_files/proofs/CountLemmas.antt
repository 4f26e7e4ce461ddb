-- What a call that failed counts.
use Rattle.std.proofs.Common.{◌≡◌, ℕ, zero, suc, ◌+◌, ◌<◌, refl, arith, sym, ◌∙◌, ap, subst, Result, Err}
use Rattle.board_files.specs.Files.{Counts, raised, HasRisen, CountsCall, CountsWrite}
use Rattle.board_files.specs.declared.files.FilesError.{FilesError}
use Rattle.board_files.specs.declared.files.FilesError.TheVariants.{Failed}

pub counts-failed : {T : Type 0} (before now : Counts) (r : Result T FilesError) → r ≡ Err Failed → HasRisen before.faults now.faults →
    now.short_writes ≡ before.short_writes → now.calls ≡ raised 1 before.calls → CountsCall before now r
counts-failed before now r is risen same called = subst (CountsCall before now) (sym is) (record { calls = called; faults = risen; short_writes = same })

pub write-failed : (given : ℕ) (before now : Counts) (r : Result ℕ FilesError) → r ≡ Err Failed → HasRisen before.faults now.faults →
    now.short_writes ≡ before.short_writes → now.calls ≡ raised 1 before.calls → CountsWrite given before now r
write-failed given before now r is risen same called = subst (CountsWrite given before now) (sym is) (record { calls = called; faults = risen; short_writes = same })

-- so many calls were counted
pub record HasCalled (more before now : ℕ) : Type 0 where
  pub none : more ≡ 0 → now ≡ before
  pub some : 0 < more → now ≡ raised more before

pub called-none : (before : ℕ) → HasCalled 0 before before
called-none before = record { none = λ zero. refl; some = λ less. absurd (omega (arith, less)) }

-- one call more
pub raised-next : (more before mid now : ℕ) → HasCalled more before mid → now ≡ raised 1 mid → now ≡ raised (more + 1) before
raised-next zero before mid now so is = is ∙ ap (raised 1) (so.none refl)
raised-next (suc n) before mid now so is = is ∙ ap (raised 1) (so.some (omega arith)) ∙ one_after (suc n)
  where
    one_after : (more : ℕ) → raised 1 (raised more before) ≡ raised (more + 1) before
    one_after more = omega arith

pub called-next : (more before mid now : ℕ) → HasCalled more before mid → now ≡ raised 1 mid → HasCalled (more + 1) before now
called-next more before mid now so is = record { none = λ zero. absurd (omega (arith, zero)); some = λ less. raised-next more before mid now so is }
