mod LentTables
