-- The rows of `DBdel` and `DBdeltree` keep the laws of rows with their touch.
use Rattle.std.specs.Prelude.{refl}
use Rattle.dp_conf.specs.Blanks.{trim}
use Rattle.dp_app.specs.Lawful.{IsLawfulRow}
use Rattle.dp_app.specs.laws.Keeping.{going_lawful}
use Rattle.dp_app.specs.laws.StoreKept.{with_globals_kept}
use Rattle.dp_wide.specs.Deleting.{delete_row, delete_tree_row, the_globals, with_empty_key, without_named}

-- the row of `DBdel`
pub delete_lawful : IsLawfulRow the_globals delete_row
delete_lawful = going_lawful the_globals delete_row
    (λ arguments cell. with_globals_kept the_globals cell (with_empty_key cell.globals (trim arguments)) refl)
    (λ arguments cell. refl) (λ arguments cell. tt)

-- the row of `DBdeltree`
pub delete_tree_lawful : IsLawfulRow the_globals delete_tree_row
delete_tree_lawful = going_lawful the_globals delete_tree_row
    (λ arguments cell. with_globals_kept the_globals cell (without_named cell.globals (trim arguments)) refl)
    (λ arguments cell. refl) (λ arguments cell. tt)
